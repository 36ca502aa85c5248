-- Fields that are put into bytes are read again.
use Rattle.std.proofs.Common.{◌≡◌, ℕ, ◌-◌, ◌/◌, ◌%◌, ◌≤◌, length, ℤ, pos, negsuc, sym, refl, ap, ◌∙◌, arith}
use Rattle.std.proofs.lemmas.Int.{ints}
use Rattle.std.proofs.lemmas.Bool.{lt-ltb, le-ltb, cond-true, cond-false}
use Rattle.cases.specs.Numbers.{big_endian, complement}
use Rattle.cases.specs.Contents.{a_name, a_rule, an_entry, a_tick, entry, tick}
use Rattle.cases.specs.Laws.{four_bytes, bits_of, Fits32, FieldsRead, NamesRead, RulesRead, EntriesRead, TicksRead}

pub fields : FieldsRead
fields tag body rest = record { high = length body / 256; low = length body % 256; whole = refl; size = omega arith }

pub names : NamesRead
names w some short = a_name refl some short refl

pub rules : RulesRead
rules text = a_rule refl refl

pub four : (n : ℕ) → big_endian (four_bytes n) ≡ n
four n = omega arith

pub ticks : TicksRead
ticks t = a_tick refl refl (ap tick (sym (four t)))

back : (z : ℤ) → Fits32 z → complement (bits_of z) ≡ z
back (pos n) h = cond-true _ _ _ (lt-ltb n 2147483648 (omega (arith, ints)))
back (negsuc n) h =
    let small : n ≤ 2147483647 = omega (arith, ints) in
    cond-false _ _ _ (le-ltb (4294967295 - n) 2147483648 (omega arith)) ∙ ap negsuc (omega arith)

same_entry : (line : ℕ) {a b c d : ℕ} {p q u v : ℤ} → a ≡ b → c ≡ d → p ≡ q → u ≡ v → entry (record { line = line; from = a; to = c; lower = p; upper = u }) ≡ entry (record { line = line; from = b; to = d; lower = q; upper = v })
same_entry line f t l u = λ i. entry (record { line = line; from = f i; to = t i; lower = l i; upper = u i })

again : (z : ℤ) → Fits32 z → z ≡ complement (big_endian (four_bytes (bits_of z)))
again z h = sym (ap complement (four (bits_of z)) ∙ back z h)

pub entries : EntriesRead
entries e low high = an_entry refl refl (same_entry e.line (sym (four e.from)) (sym (four e.to)) (again e.lower low) (again e.upper high))
