-- Entries as the listing has them.
use Rattle.std.proofs.Common.{◌≡◌, ℕ, List, ℤ, Result, subst}
use Rattle.runs.specs.States.{State}
use Rattle.runs.specs.Jobs.{JobAnswer, JobTurn, enter}
use Rattle.cases.specs.declared.field.Entry.{Entry}
use Rattle.case_lines.specs.Lines.{entry_text}
use Rattle.case_lines.specs.Calls.{CarriesEntry}

pub entered : (k : ℕ) (e : Entry) (s after : State) (lower upper : ℤ) (reply : Result JobAnswer ℕ) (text : List ℕ) → lower ≡ e.lower → upper ≡ e.upper → JobTurn s (enter e.line e.from e.to lower upper) reply after → text ≡ entry_text k reply → CarriesEntry k e s after text
entered k e s after lower upper reply text l u t p =
    record {
      reply = reply;
      turn =
          subst (λ (z : ℤ). JobTurn s (enter e.line e.from e.to e.lower z) reply after) u
          (subst (λ (z : ℤ). JobTurn s (enter e.line e.from e.to z upper) reply after) l t);
      prints = p;
    }
