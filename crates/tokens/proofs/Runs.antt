-- Runs of bytes of one class, and what a part of a text begins with.
use Rattle.std.proofs.Common.{◌≡◌, ℕ, ◌+◌, ◌-◌, ◌<◌, ◌≤◌, Bool, true, false, ◌||◌, ◌==◌, cond, IsTrue, Decides, one-add, List, [], ◌∷◌, length, get_or, take, drop, sym, subst, refl, arith, length-drop}
use Rattle.std.specs.Char.{is_ascii_digit, is_ascii_lowercase}
use Rattle.std.specs.List.{prefix_len, AllByRecursion}
use Rattle.std.proofs.lemmas.List.{drop_more, drop_all, drop-drop}
use Rattle.std.proofs.lemmas.List.Sums.{prefix_len-le-length}
use Rattle.std.proofs.lemmas.Bool.{both_ways}
use Rattle.std.proofs.lemmas.Bool.Decides.{nat_tests}
use Rattle.std.proofs.ByRecursion.{All-weaker}
use Rattle.tokens.specs.Words.{Digit, Blank, NameByte, FirstByte}
use Rattle.tokens.specs.Steps.{RunTo}

module _ (P : ℕ → Type 0) (text : List ℕ) (i : ℕ) where
  pub begins_at : i < length text → P (get_or text i 0) → FirstByte P (drop i text)
  begins_at h p = subst (FirstByte P) (sym (drop_more text i 0 h)) p

  pub at_begins : i < length text → FirstByte P (drop i text) → P (get_or text i 0)
  at_begins h b = subst (FirstByte P) (drop_more text i 0 h) b

  pub ends_at : length text ≤ i → FirstByte P (drop i text) → ⊥
  ends_at h b = subst (FirstByte P) (drop_all i text h) b

-- the bytes in front that pass a test are a run
module _ (p : ℕ → Bool) where
  front_passes : (bs : List ℕ) → AllByRecursion (λ b. IsTrue (p b)) (take (prefix_len p bs) bs)
  front_passes [] = tt
  front_passes (b ∷ bs) =
      elim (p b) as (λ v. p b ≡ v → AllByRecursion (λ b. IsTrue (p b)) (take (cond v (1 + prefix_len p bs) 0) (b ∷ bs))) [ true ↦ λ e. rw one-add (e, front_passes bs) | false ↦ λ _. tt ] refl

  front_ends : (bs : List ℕ) → FirstByte (λ b. IsTrue (p b)) (drop (prefix_len p bs) bs) → ⊥
  front_ends [] = λ h. h
  front_ends (b ∷ bs) =
      elim (p b) as (λ v. p b ≡ v → FirstByte (λ b. IsTrue (p b)) (drop (cond v (1 + prefix_len p bs) 0) (b ∷ bs)) → ⊥) [ true ↦ λ _. rw one-add (front_ends bs) | false ↦ λ e h. both_ways _ e h ] refl

  pub front_is_run : (text : List ℕ) (at n : ℕ) → at ≤ length text → n ≡ prefix_len p (drop at text) → RunTo (λ b. IsTrue (p b)) text at (at + n)
  front_is_run text at n within is =
      let far : at + n - at ≡ n = omega arith in
      record {
        on = omega arith;
        within = omega (arith, is, prefix_len-le-length p (drop at text), length-drop at text);
        all = rw (far, is) (front_passes (drop at text));
        over = rw (← drop-drop n at text) (rw is (front_ends (drop at text)));
      }

-- a run of what passes the test of P is a run of P
pub run_of : (p : ℕ → Bool) (P : ℕ → Type 0) → ((b : ℕ) → Decides (p b) (P b)) → {text : List ℕ} {at end : ℕ} → RunTo (λ b. IsTrue (p b)) text at end → RunTo P text at end
run_of p P tests {text} {at} {end} run =
    record { on = run.on; within = run.within; all = All-weaker _ _ (λ b. (tests b).0) _ run.all; over = λ h. run.over (begins_each (λ b. (tests b).1) (drop end text) h) }
  where
    begins_each : {P Q : ℕ → Type 0} → ((b : ℕ) → P b → Q b) → (w : List ℕ) → FirstByte P w → FirstByte Q w
    begins_each h [] = λ f. f
    begins_each h (b ∷ w) = h b

-- the tests of blanks, digits and name bytes
abbrev pub is_blank : ℕ → Bool
is_blank b = (b == 32) || (b == 10)

abbrev pub is_name_byte : ℕ → Bool
is_name_byte b = is_ascii_lowercase b || is_ascii_digit b

pub digit_decides : (b : ℕ) → Decides (is_ascii_digit b) (Digit b)
digit_decides b = grind (arith, nat_tests)

pub blank_decides : (b : ℕ) → Decides (is_blank b) (Blank b)
blank_decides b = grind (arith, nat_tests)

pub name_byte_decides : (b : ℕ) → Decides (is_name_byte b) (NameByte b)
name_byte_decides b = grind (arith, nat_tests)
