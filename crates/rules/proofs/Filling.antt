-- How the table stands for more rows and more rises.
use Rattle.std.proofs.Common.{◌≡◌, ℕ, ◌≤◌, Bool, true, false, cond, ltb, List, [], ◌∷◌, ◌++◌, length, Some, None, Option, sym, refl, ap, ◌∙◌, subst}
use Rattle.std.specs.Option.{option_or}
use Rattle.std.proofs.lemmas.List.{append-nil}
use Rattle.rules.specs.declared.row.Row.{Row}
use Rattle.rules.specs.declared.table.Table.{Table}
use Rattle.rules.specs.Tables.{deep_place}
use Rattle.rules.specs.Readers.{Risen}

abbrev table : List Row → ℕ → Option ℕ → Table
table rows n deep = record { rows = rows; count = n; deep = deep }

-- the first place that is too deep, with one rise more
pub deep_more : (rs : List (ℕ × ℕ)) (at depth : ℕ) → deep_place (rs ++ ((at, depth) ∷ [])) ≡ option_or (deep_place rs) (cond (ltb 16 depth) (Some at) None)
deep_more [] at depth = refl
deep_more (r ∷ rs) at depth =
    elim (ltb 16 r.1) as (λ (b : Bool). cond b (Some r.0) (deep_place (rs ++ ((at, depth) ∷ []))) ≡ option_or (cond b (Some r.0) (deep_place rs)) (cond (ltb 16 depth) (Some at) None)) [
      | true ↦ refl
      | false ↦ deep_more rs at depth
    ]

pub risen : (rows : List Row) (n : ℕ) (deep later : Option ℕ) (at depth : ℕ) → later ≡ option_or deep (cond (ltb 16 depth) (Some at) None) → Risen at depth (table rows n deep) (table rows n later)
risen rows n deep later at depth is =
    record {
      count = refl;
      grows =
          λ old deeper h. record {
            count = h.count ∙ ap length (sym (append-nil old));
            kept = λ few. h.kept (subst (λ (v : List Row). length v ≤ 64) (append-nil old) few) ∙ sym (append-nil old);
            deep = is ∙ ap (λ (o : Option ℕ). option_or o (cond (ltb 16 depth) (Some at) None)) h.deep ∙ sym (deep_more deeper at depth);
          };
    }
