-- Readings from the left, put together.
use Rattle.std.proofs.Common.{◌≡◌, ℕ, ◌+◌, ◌≤◌, List, [], ◌∷◌, ◌++◌, length, drop, sym, subst, ap, arith}
use Rattle.std.specs.List.{between, AllByRecursion}
use Rattle.std.proofs.lemmas.List.{drop_all, length-append}
use Rattle.std.proofs.lemmas.List.Edits.{length-between}
use Rattle.tokens.specs.declared.fault.TokenFault.{TokenFault}
use Rattle.tokens.specs.declared.token.Token.{Token}
use Rattle.tokens.specs.Words.{Blank, FirstByte}
use Rattle.tokens.specs.Splits.{ReadsWords, nothing, blank, word, Split}
use Rattle.tokens.specs.Answers.{Refused}
use Rattle.tokens.specs.Steps.{RunTo, WordAt, FaultAt}
use Rattle.tokens.proofs.Places.{parted}

-- a reading goes on from where another ends
pub reads_on : {names : List (List ℕ)} {p q r : ℕ} {text rest end ps qs : List ℕ} {ts us : List Token} → ReadsWords names p text q rest ps ts → ReadsWords names q rest r end qs us → ReadsWords names p text r end (ps ++ qs) (ts ++ us)
reads_on nothing s = s
reads_on (blank b r) s = blank b (reads_on r s)
reads_on (word e w l r) s = word e w l (reads_on r s)

over_blanks : {names : List (List ℕ)} (p q : ℕ) (bs rest : List ℕ) → AllByRecursion Blank bs → p + length bs ≡ q → ReadsWords names p (bs ++ rest) q rest [] []
over_blanks {names} p q [] rest all e = let same : p ≡ q = omega arith in subst (λ n. ReadsWords names p rest n rest [] []) same nothing
over_blanks p q (b ∷ bs) rest all e = blank all.0 (over_blanks (p + 1) q bs rest all.1 (omega arith))

module _ (names : List (List ℕ)) (text : List ℕ) (at end : ℕ) where
  blanks : RunTo Blank text at end → ReadsWords names at (drop at text) end (drop end text) [] []
  blanks run =
      let far : at + length (between at end text) ≡ end = omega (arith, length-between text at end run.within, run.on) in
      subst (λ t. ReadsWords names at t end (drop end text) [] []) (sym (parted text at end run.on)) (over_blanks at end (between at end text) (drop end text) run.all far)

  one_word : (t : Token) → WordAt names text at t end → ReadsWords names at (drop at text) end (drop end text) (at ∷ []) (t ∷ [])
  one_word t w =
      let far : at + length (between at end text) ≡ end = omega (arith, length-between text at end w.within, w.on) in
      word (parted text at end (omega (arith, w.on))) w.spells w.longest (subst (λ n. ReadsWords names n (drop end text) end (drop end text) [] []) (sym far) nothing)

-- the tokens before a place at which no blank stands; each took a byte at least
pub record SoFar (names : List (List ℕ)) (text : List ℕ) (at : ℕ) (places : List ℕ) (tokens : List Token) : Type 0 where
  pub within : at ≤ length text
  pub few : length tokens ≤ at
  pub solid : FirstByte Blank (drop at text) → ⊥
  pub reads : ReadsWords names 0 text at (drop at text) places tokens

module _ {names : List (List ℕ)} {text : List ℕ} where
  pub begun : {at : ℕ} {places : List ℕ} {tokens : List Token} → RunTo Blank text 0 at → places ≡ [] → tokens ≡ [] → SoFar names text at places tokens
  begun {at} {places} {tokens} run p t =
      record {
        within = run.within;
        few = omega (arith, ap length t);
        solid = run.over;
        reads = subst (λ ts. ReadsWords names 0 text at (drop at text) places ts) (sym t) (subst (λ ps. ReadsWords names 0 text at (drop at text) ps []) (sym p) (blanks names text 0 at run));
      }

  pub gone_on : {at end next : ℕ} {places places' : List ℕ} {tokens tokens' : List Token} {t : Token} → SoFar names text at places tokens → WordAt names text at t end → RunTo Blank text end next → places' ≡ places ++ at ∷ [] → tokens' ≡ tokens ++ t ∷ [] → SoFar names text next places' tokens'
  gone_on {at} {end} {next} {places} {places'} {tokens} {tokens'} {t} far w run p e =
      record {
        within = run.within;
        few = omega (arith, far.few, w.on, run.on, ap length e, length-append tokens (t ∷ []));
        solid = run.over;
        reads =
            subst (λ ts. ReadsWords names 0 text next (drop next text) places' ts) (sym e) (subst (λ ps. ReadsWords names 0 text next (drop next text) ps (tokens ++ t ∷ [])) (sym p) (reads_on far.reads (reads_on (one_word names text at end t w) (blanks names text end next run))));
      }

  pub ended : {at : ℕ} {places : List ℕ} {tokens : List Token} → SoFar names text at places tokens → length text ≤ at → Split names text places tokens
  ended {at} {places} {tokens} far past =
      let whole : at ≡ length text = omega (arith, far.within) in
      subst (λ n. ReadsWords names 0 text n [] places tokens) whole (subst (λ r. ReadsWords names 0 text at r places tokens) (drop_all at text past) far.reads)

  pub stopped : {at : ℕ} {places : List ℕ} {tokens : List Token} (fault : TokenFault) → SoFar names text at places tokens → FaultAt names text at fault → length text ≤ 1024 → Refused names text fault
  stopped {at} {places} {tokens} fault far f short = subst (Refused names text) (sym f.place) (short, record { places = places; tokens = tokens; reads = far.reads; fault = f.none })
