use Rattle.std.proofs.Common.{ℕ, refl, ap, ◌∙◌, inl, inr, w32, SFits, rules}
use Rattle.std.proofs.lemmas.Int.{to_z-of_z}
use Rattle.grades.specs.Worth.{worth}
use Rattle.rules.specs.declared.row.Row.TheVariants.{Not, And, Or, Eventually, Always, Until}
use Rattle.meaning.specs.Limits.{range_of}
use Rattle.judge.proofs.RowSteps.{stands, test_row, not_row, and_row, or_row, eventually_row, always_row, until_row}
use Rattle.judge.specs.Places.{list_at}
use Rattle.judge.proofs.Candidates.{test_named, not_named, and_named, or_named, eventually_named, always_named, until_named}
use Rattle.judge.proofs.rows.row_step.Goals as goal

pub list-requires : goal.list-requires
list-requires g c = stands c.args.row (Not c.in-Not.child) c.args.done.begins.now c.args.done.cells.now c.requires c.in-Not.is c.in-Not.child refl

pub list-left-requires : goal.list-left-requires
list-left-requires g c = stands c.args.row (And c.in-And.left c.in-And.right) c.args.done.begins.now c.args.done.cells.now c.requires c.in-And.is c.in-And.left (inl refl)

pub list-right-requires : goal.list-right-requires
list-right-requires g c = stands c.args.row (And c.in-And.left c.in-And.right) c.args.done.begins.now c.args.done.cells.now c.requires c.in-And.is c.in-And.right (inr refl)

pub list-left-requires-in-Or : goal.list-left-requires-in-Or
list-left-requires-in-Or g c = stands c.args.row (Or c.in-Or.left c.in-Or.right) c.args.done.begins.now c.args.done.cells.now c.requires c.in-Or.is c.in-Or.left (inl refl)

pub list-right-requires-in-Or : goal.list-right-requires-in-Or
list-right-requires-in-Or g c = stands c.args.row (Or c.in-Or.left c.in-Or.right) c.args.done.begins.now c.args.done.cells.now c.requires c.in-Or.is c.in-Or.right (inr refl)

pub list-child-requires : goal.list-child-requires
list-child-requires g c = stands c.args.row (Eventually c.in-Eventually.from c.in-Eventually.to c.in-Eventually.child) c.args.done.begins.now c.args.done.cells.now c.requires c.in-Eventually.is c.in-Eventually.child refl

pub list-child-requires-in-Always : goal.list-child-requires-in-Always
list-child-requires-in-Always g c = stands c.args.row (Always c.in-Always.from c.in-Always.to c.in-Always.child) c.args.done.begins.now c.args.done.cells.now c.requires c.in-Always.is c.in-Always.child refl

pub list-left-requires-in-Until : goal.list-left-requires-in-Until
list-left-requires-in-Until g c = stands c.args.row (Until c.in-Until.from c.in-Until.to c.in-Until.left c.in-Until.right) c.args.done.begins.now c.args.done.cells.now c.requires c.in-Until.is c.in-Until.left (inl refl)

pub list-right-requires-in-Until : goal.list-right-requires-in-Until
list-right-requires-in-Until g c = stands c.args.row (Until c.in-Until.from c.in-Until.to c.in-Until.left c.in-Until.right) c.args.done.begins.now c.args.done.cells.now c.requires c.in-Until.is c.in-Until.right (inr refl)

pub returns-in-Test : goal.returns-in-Test
returns-in-Test g c =
    let f : SFits w32 c.in-Test.limit = search rules in
    let at = λ (k : ℕ). list_at c.args.done.begins.now c.args.done.cells.now k in
    record {
      steady = test_row g.G.Grade.kind g.G.Grade.value (g.L.Lines.x c.args.lines.now) c.args.done.begins.now c.args.done.cells.now c.args.row c.args.t
          (worth g.G.Grade.kind g.G.Grade.value c.tested.result) c.read-next.result.1
          c.in-Test.line c.in-Test.side c.in-Test.limit c.read-next.result.0 c.in-Test.is
          (c.tested.ensures ∙ ap (λ m. range_of g.G.Grade.kind c.in-Test.side m c.read-next.result.0) (to_z-of_z w32 c.in-Test.limit f)) c.read-next.ensures.steady;
      named = test_named (g.L.Lines.x c.args.lines.now) at c.args.row c.args.t c.read-next.result.1 c.in-Test.line c.in-Test.side c.in-Test.limit c.read-next.result.0 c.in-Test.is c.read-next.ensures.steady c.read-next.ensures.changed;
    }

pub returns-in-Not : goal.returns-in-Not
returns-in-Not g c =
    let at = λ (k : ℕ). list_at c.args.done.begins.now c.args.done.cells.now k in
    record {
      steady = not_row g.G.Grade.kind g.G.Grade.value (g.L.Lines.x c.args.lines.now) c.args.done.begins.now c.args.done.cells.now c.args.row c.args.t
          (worth g.G.Grade.kind g.G.Grade.value c.not_step.result.0) c.not_step.result.1
          c.in-Not.child c.list.result.pieces.now c.in-Not.is c.list.ensures c.not_step.ensures.steady;
      named = not_named (g.L.Lines.x c.args.lines.now) at c.args.row c.args.t c.not_step.result.1 c.in-Not.child c.list.result.pieces.now c.in-Not.is c.list.ensures c.not_step.ensures.named;
    }

pub returns-in-And : goal.returns-in-And
returns-in-And g c =
    let at = λ (k : ℕ). list_at c.args.done.begins.now c.args.done.cells.now k in
    record {
      steady = and_row g.G.Grade.kind g.G.Grade.value (g.L.Lines.x c.args.lines.now) c.args.done.begins.now c.args.done.cells.now c.args.row c.args.t
          (worth g.G.Grade.kind g.G.Grade.value c.pair_step.result.0) c.pair_step.result.1
          c.in-And.left c.in-And.right c.list-left.result.pieces.now c.list-right.result.pieces.now c.in-And.is c.list-left.ensures c.list-right.ensures c.pair_step.ensures.steady;
      named = and_named (g.L.Lines.x c.args.lines.now) at c.args.row c.args.t c.pair_step.result.1 c.in-And.left c.in-And.right c.list-left.result.pieces.now c.list-right.result.pieces.now c.in-And.is c.list-left.ensures c.list-right.ensures c.pair_step.ensures.named;
    }

pub returns-in-Or : goal.returns-in-Or
returns-in-Or g c =
    let at = λ (k : ℕ). list_at c.args.done.begins.now c.args.done.cells.now k in
    record {
      steady = or_row g.G.Grade.kind g.G.Grade.value (g.L.Lines.x c.args.lines.now) c.args.done.begins.now c.args.done.cells.now c.args.row c.args.t
          (worth g.G.Grade.kind g.G.Grade.value c.pair_step-in-Or.result.0) c.pair_step-in-Or.result.1
          c.in-Or.left c.in-Or.right c.list-left-in-Or.result.pieces.now c.list-right-in-Or.result.pieces.now c.in-Or.is c.list-left-in-Or.ensures c.list-right-in-Or.ensures c.pair_step-in-Or.ensures.steady;
      named = or_named (g.L.Lines.x c.args.lines.now) at c.args.row c.args.t c.pair_step-in-Or.result.1 c.in-Or.left c.in-Or.right c.list-left-in-Or.result.pieces.now c.list-right-in-Or.result.pieces.now c.in-Or.is c.list-left-in-Or.ensures c.list-right-in-Or.ensures c.pair_step-in-Or.ensures.named;
    }

pub returns-in-Eventually : goal.returns-in-Eventually
returns-in-Eventually g c =
    let at = λ (k : ℕ). list_at c.args.done.begins.now c.args.done.cells.now k in
    record {
      steady = eventually_row g.G.Grade.kind g.G.Grade.value (g.L.Lines.x c.args.lines.now) c.args.done.begins.now c.args.done.cells.now c.args.row c.args.t
          (worth g.G.Grade.kind g.G.Grade.value c.window_step.result.0) c.window_step.result.1
          c.in-Eventually.from c.in-Eventually.to c.in-Eventually.child c.list-child.result.pieces.now c.in-Eventually.is c.list-child.ensures c.window_step.ensures.steady;
      named = eventually_named (g.L.Lines.x c.args.lines.now) at c.args.row c.args.t c.window_step.result.1 c.in-Eventually.from c.in-Eventually.to c.in-Eventually.child c.list-child.result.pieces.now c.in-Eventually.is c.list-child.ensures c.window_step.ensures.named;
    }

pub returns-in-Always : goal.returns-in-Always
returns-in-Always g c =
    let at = λ (k : ℕ). list_at c.args.done.begins.now c.args.done.cells.now k in
    record {
      steady = always_row g.G.Grade.kind g.G.Grade.value (g.L.Lines.x c.args.lines.now) c.args.done.begins.now c.args.done.cells.now c.args.row c.args.t
          (worth g.G.Grade.kind g.G.Grade.value c.window_step-in-Always.result.0) c.window_step-in-Always.result.1
          c.in-Always.from c.in-Always.to c.in-Always.child c.list-child-in-Always.result.pieces.now c.in-Always.is c.list-child-in-Always.ensures c.window_step-in-Always.ensures.steady;
      named = always_named (g.L.Lines.x c.args.lines.now) at c.args.row c.args.t c.window_step-in-Always.result.1 c.in-Always.from c.in-Always.to c.in-Always.child c.list-child-in-Always.result.pieces.now c.in-Always.is c.list-child-in-Always.ensures c.window_step-in-Always.ensures.named;
    }

pub returns-in-Until : goal.returns-in-Until
returns-in-Until g c =
    let at = λ (k : ℕ). list_at c.args.done.begins.now c.args.done.cells.now k in
    record {
      steady = until_row g.G.Grade.kind g.G.Grade.value (g.L.Lines.x c.args.lines.now) c.args.done.begins.now c.args.done.cells.now c.args.row c.args.t
          (worth g.G.Grade.kind g.G.Grade.value c.until_step.result.0) c.until_step.result.1
          c.in-Until.from c.in-Until.to c.in-Until.left c.in-Until.right c.list-left-in-Until.result.pieces.now c.list-right-in-Until.result.pieces.now c.in-Until.is c.list-left-in-Until.ensures c.list-right-in-Until.ensures c.until_step.ensures.steady;
      named = until_named (g.L.Lines.x c.args.lines.now) at c.args.row c.args.t c.until_step.result.1 c.in-Until.from c.in-Until.to c.in-Until.left c.in-Until.right c.list-left-in-Until.result.pieces.now c.list-right-in-Until.result.pieces.now c.in-Until.is c.list-left-in-Until.ensures c.list-right-in-Until.ensures c.until_step.ensures.named;
    }
