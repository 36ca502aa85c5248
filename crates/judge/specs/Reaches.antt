-- Where a child is wanted. Assumes nothing.
use Rattle.std.specs.Prelude.{◌≡◌, ℕ, suc, ◌+◌, ◌<◌, ◌≤◌, max, Bool, true, false, not, ◌&&◌, ◌⊎◌, Option, nat_le}
use Rattle.pieces.specs.Ticks.{Before, Later}
use Rattle.judge.specs.Yes.{any}

-- asks: the parent is wanted and not settled; dead: nothing is seen past this tick
module _ (asks dead : ℕ → Bool) where
  abbrev pub Alive : ℕ → ℕ → Type 0
  Alive t w = (k : ℕ) → t ≤ k → k ≤ w → dead k ≡ false

  -- w is seen from t
  pub record Sees (a b t w : ℕ) : Type 0 where
    pub wants : asks t ≡ true
    pub from : t + a ≤ w
    pub to : w ≤ t + b
    pub alive : Alive t w

  -- w is seen from some tick before n
  abbrev pub Seen : ℕ → ℕ → ℕ → ℕ → Type 0
  Seen a b n w = (t : ℕ) × ((t < n) × Sees a b t w)

-- no tick from t to w is dead
abbrev pub clear : (ℕ → Bool) → ℕ → ℕ → Bool
clear dead t w = not (any (λ k. nat_le t k && dead k) (suc w))

abbrev pub sees : (ℕ → Bool) → (ℕ → Bool) → ℕ → ℕ → ℕ → ℕ → Bool
sees asks dead a b t w = asks t && (nat_le (t + a) w && (nat_le w (t + b) && clear dead t w))

-- v is between t and a tick that is seen from t and at which need holds
pub record HeldOver (asks dead need : ℕ → Bool) (a b t v : ℕ) : Type 0 where
  pub from : t ≤ v
  pub at : ℕ
  pub after : v ≤ at
  pub needs : need at ≡ true
  pub seen : Sees asks dead a b t at

abbrev pub held_over : (ℕ → Bool) → (ℕ → Bool) → (ℕ → Bool) → ℕ → ℕ → ℕ → ℕ → Bool
held_over asks dead need a b t v = nat_le t v && any (λ w. nat_le v w && (need w && sees asks dead a b t w)) (suc (t + b))

-- v is held from some tick before n
abbrev pub HeldBefore : (ℕ → Bool) → (ℕ → Bool) → (ℕ → Bool) → ℕ → ℕ → ℕ → ℕ → Type 0
HeldBefore asks dead need a b n v = (t : ℕ) × ((t < n) × HeldOver asks dead need a b t v)

-- Up to o, whether w, the first dead or needed tick from u on, is a needed tick that lies at most b ticks ahead.
-- Where found is no, w lies further ahead, or is dead; where it is yes, the ticks from w up to o are needed and not dead.
pub record Ahead (dead need : ℕ → Bool) (b end w u : ℕ) (found : Bool) (o : Option ℕ) : Type 0 where
  pub later : Later u o
  pub near : found ≡ true → w ≤ u + b
  pub good : found ≡ true → (v k : ℕ) → Before o v → w ≤ k → k ≤ max v w → (dead k ≡ false) × (need k ≡ true) × (k < end)
  pub lost : found ≡ false → (v : ℕ) → Before o v → (v + b < w) ⊎ ((dead w ≡ true) × (v < w))
