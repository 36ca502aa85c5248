-- In a sound table each row but the last has a parent.
use Rattle.std.proofs.Common.{◌≡◌, ℕ, suc, ◌<◌, List, length, Some, None, Option, IsSome, refl, subst}
use Rattle.rules.specs.declared.row.Row.{Row}
use Rattle.rules.specs.Rows.{row_at, Child, Sound}
use Rattle.rules.specs.Parents.{FirstParent}

module _ (rows : List Row) (c : ℕ) (sound : Sound rows) (lt : suc c < length rows) where
  pub has_parent : (o : Option ℕ) → FirstParent rows c o → IsSome o
  has_parent None h = let p = sound.used c lt in absurd (h p.0 p.1 p.2)
  has_parent (Some k) h = refl

pub record ParentIs (rows : List Row) (c k : ℕ) : Type 0 where
  pub is_row : k < length rows
  pub child : Child (row_at rows k) c

pub parent_is : (rows : List Row) (c k : ℕ) (o : Option ℕ) → o ≡ Some k → FirstParent rows c o → ParentIs rows c k
parent_is rows c k o e h = let f = subst (λ q. FirstParent rows c q) e h in record { is_row = f.0; child = f.1.0 }
