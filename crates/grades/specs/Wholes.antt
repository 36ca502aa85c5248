-- The order of whole numbers, the negative, and the lower and the upper of two of whatever goes by its number.
use Rattle.std.specs.Prelude.{◌≡◌, zero, suc, Bool, true, false, not, cond, T, ℤ, pos, negsuc, neg_ℤ, ◌≤ℤ◌, int_le, int_lt, refl}
use Rattle.std.proofs.Common.{ap, zero-le, suc-le-suc, le_of_lt, le_of_suc-le-suc, not-suc-le-zero, le_antisymm, le→leb, leb→le, ltb→lt}
use Rattle.std.specs.Int.Signed.{lt_z_yes, lt_z_no, ≤ℤ_refl, <ℤ-≤ℤ_trans, clash_ℤ}

-- what is chosen by a test has what both have
pub chosen : {A : Type 0} (P : A → Type 0) (b : Bool) (x y : A) → (T b → P x) → (T (not b) → P y) → P (cond b x y)
chosen P true x y f g = f tt
chosen P false x y f g = g tt

below_test : (a b : ℤ) → T (int_lt a b) → T (int_le a b)
below_test (pos a) (pos b) t = le→leb a b (le_of_lt (ltb→lt a b t))
below_test (pos a) (negsuc b) t = absurd t
below_test (negsuc a) (pos b) t = tt
below_test (negsuc a) (negsuc b) t = le→leb b a (le_of_lt (ltb→lt b a t))

pub below_then : (a b : ℤ) → T (int_lt a b) → a ≤ℤ b
below_then a b t = record { le = below_test a b t }

pub at_most_trans : (a b c : ℤ) → a ≤ℤ b → b ≤ℤ c → a ≤ℤ c
at_most_trans a b c h k = chosen (λ z. a ≤ℤ c) (int_lt c a) a a (λ t. clash_ℤ (<ℤ-≤ℤ_trans (lt_z_yes t) h) k) lt_z_no

pub at_most_both : (a b : ℤ) → a ≤ℤ b → b ≤ℤ a → a ≡ b
at_most_both (pos a) (pos b) h k = ap pos (le_antisymm (leb→le a b h.le) (leb→le b a k.le))
at_most_both (pos a) (negsuc b) h k = absurd h.le
at_most_both (negsuc a) (pos b) h k = absurd k.le
at_most_both (negsuc a) (negsuc b) h k = ap negsuc (le_antisymm (leb→le a b k.le) (leb→le b a h.le))

pub turned_twice : (a : ℤ) → neg_ℤ (neg_ℤ a) ≡ a
turned_twice (pos zero) = refl
turned_twice (pos (suc a)) = refl
turned_twice (negsuc a) = refl

turned_test : (a b : ℤ) → T (int_le a b) → T (int_le (neg_ℤ b) (neg_ℤ a))
turned_test (pos zero) (pos zero) t = t
turned_test (pos zero) (pos (suc b)) t = tt
turned_test (pos (suc a)) (pos zero) t = absurd (not-suc-le-zero (leb→le (suc a) 0 t))
turned_test (pos (suc a)) (pos (suc b)) t = le→leb a b (le_of_suc-le-suc (leb→le (suc a) (suc b) t))
turned_test (pos a) (negsuc b) t = absurd t
turned_test (negsuc a) (pos zero) t = le→leb 0 (suc a) zero-le
turned_test (negsuc a) (pos (suc b)) t = tt
turned_test (negsuc a) (negsuc b) t = le→leb (suc b) (suc a) (suc-le-suc (leb→le b a t))

pub turned_below : (a b : ℤ) → a ≤ℤ b → neg_ℤ b ≤ℤ neg_ℤ a
turned_below a b h = record { le = turned_test a b h.le }

-- the lower and the upper of two by their numbers
abbrev pub lower_by : {A : Type 0} → (A → ℤ) → A → A → A
lower_by f x y = cond (int_lt (f y) (f x)) y x

abbrev pub upper_by : {A : Type 0} → (A → ℤ) → A → A → A
upper_by f x y = cond (int_lt (f y) (f x)) x y

pub lower_left : {A : Type 0} (f : A → ℤ) (x y : A) → f (lower_by f x y) ≤ℤ f x
lower_left f x y = chosen (λ z. f z ≤ℤ f x) (int_lt (f y) (f x)) y x (below_then (f y) (f x)) (λ t. ≤ℤ_refl (f x))

pub lower_right : {A : Type 0} (f : A → ℤ) (x y : A) → f (lower_by f x y) ≤ℤ f y
lower_right f x y = chosen (λ z. f z ≤ℤ f y) (int_lt (f y) (f x)) y x (λ t. ≤ℤ_refl (f y)) lt_z_no

pub lower_most : {A : Type 0} (f : A → ℤ) (x y : A) (a : ℤ) → a ≤ℤ f x → a ≤ℤ f y → a ≤ℤ f (lower_by f x y)
lower_most f x y a h k = chosen (λ z. a ≤ℤ f z) (int_lt (f y) (f x)) y x (λ t. k) (λ t. h)

pub upper_left : {A : Type 0} (f : A → ℤ) (x y : A) → f x ≤ℤ f (upper_by f x y)
upper_left f x y = chosen (λ z. f x ≤ℤ f z) (int_lt (f y) (f x)) x y (λ t. ≤ℤ_refl (f x)) lt_z_no

pub upper_right : {A : Type 0} (f : A → ℤ) (x y : A) → f y ≤ℤ f (upper_by f x y)
upper_right f x y = chosen (λ z. f y ≤ℤ f z) (int_lt (f y) (f x)) x y (below_then (f y) (f x)) (λ t. ≤ℤ_refl (f y))

pub upper_least : {A : Type 0} (f : A → ℤ) (x y : A) (a : ℤ) → f x ≤ℤ a → f y ≤ℤ a → f (upper_by f x y) ≤ℤ a
upper_least f x y a h k = chosen (λ z. f z ≤ℤ a) (int_lt (f y) (f x)) x y (λ t. h) (λ t. k)
