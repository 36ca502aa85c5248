use Rattle.std.proofs.Common.{rules, leb}
use Rattle.std.proofs.lemmas.List.Sorted.{IsPartitionPoint-from_clause, IsPartitionedBy-leb}
use Rattle.pieces.specs.declared.piece.Piece.{Piece}
use Rattle.pieces.proofs.Orders.{rises, Splits, splits_some, splits_holds}
use Rattle.pieces.proofs.Holders.{splits_count}
use Rattle.pieces.proofs.list.PieceList.started.Goals as goal

pub returns : goal.returns
returns g c =
    let xs = c.args.self.now.pieces.now in
    let ok = c.args.self.now.ok in
    let t = c.args.t in
    let n = c.partition_point.result in
    let parted = IsPartitionedBy-leb (λ (p : Piece g.row.V.Denot). p.start) xs t (rises xs ok) in
    let point : Splits xs t n = IsPartitionPoint-from_clause (λ p. leb p.start t) _ _ c.partition_point.ensures.partitioned parted (λ a r q k. search rules) in
    record {
      count = splits_count xs t n c.partition_point.ensures.bound point;
      some = splits_some xs t n ok point;
      last = splits_holds xs t n ok c.partition_point.ensures.bound point;
    }
