use Rattle.std.proofs.Common.{ℕ, Bool, ◌&&◌, sym, ap, subst}
use Rattle.grades.specs.Worth.{worth}
use Rattle.grades.specs.declared.range.Range.{Range}
use Rattle.pieces.specs.Pieces.{at_list}
use Rattle.pieces.proofs.Shows.{found_steady}
use Rattle.pieces.proofs.Steadies.{steady_as, both_steady}
use Rattle.judge.specs.Candidates.{Starts, EitherStarts, NeverOr}
use Rattle.judge.proofs.Candidates.{found_starts, never_or_sooner}
use Rattle.judge.specs.Trials.{tried, range_says, asked}
use Rattle.judge.specs.declared.trial.Trial.TheVariants.{Loose}
use Rattle.judge.proofs.tried.AskingYesNo.step.Goals as goal

pub returns : goal.returns
returns g c =
    let s = c.args.self.now in
    let t = c.args.t in
    let K = g.G.Grade.kind in
    let val = λ (r : Range g.row.G.Denot). tried K Loose (worth K g.G.Grade.value r) in
    let want : ℕ → Bool = at_list s.want.pieces.now s.want.ok in
    let loose : ℕ → Bool = range_says K g.G.Grade.value Loose s.range.pieces.now s.range.ok in
    let one = found_steady (λ (b : Bool). b) s.want.pieces.now s.want.ok t c.lookup-wanted.result.0 c.lookup-wanted.result.1 c.lookup-wanted.ensures in
    let two = found_steady val s.range.pieces.now s.range.ok t c.lookup-range.result.0 c.lookup-range.result.1 c.lookup-range.ensures in
    let both = both_steady want loose t c.lookup-wanted.result.0 (val c.lookup-range.result.0) c.lookup-wanted.result.1 c.lookup-range.result.1 ◌&&◌ one two in
    record {
      steady = steady_as (asked want loose) t _ _ _ _ (ap (λ (b : Bool). c.lookup-wanted.result.0 && b) c.try_range-loose.ensures) c.first_of.ensures both;
      named = subst (NeverOr (EitherStarts s.want.pieces.now s.range.pieces.now)) (sym c.first_of.ensures)
          (never_or_sooner (Starts s.want.pieces.now) (Starts s.range.pieces.now) c.lookup-wanted.result.1 c.lookup-range.result.1
          (found_starts s.want.pieces.now t c.lookup-wanted.result.0 c.lookup-wanted.result.1 c.lookup-wanted.ensures)
          (found_starts s.range.pieces.now t c.lookup-range.result.0 c.lookup-range.result.1 c.lookup-range.ensures));
    }
