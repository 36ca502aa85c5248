-- Line by line: what was said so far, and the fields that say it.
use Rattle.std.proofs.Common.{◌≡◌, ℕ, ◌+◌, ◌/◌, ◌%◌, ◌<◌, ◌≤◌, List, [], ◌∷◌, ◌++◌, length, get_or, take, drop, sym, refl, ap, ◌∙◌, subst, arith}
use Rattle.std.specs.List.{enumerate_from}
use Rattle.std.proofs.lemmas.List.{length-append, append-nil, append_assoc, take-append-drop, drop_more, take_more, take_all, length-take-le}
use Rattle.std.proofs.lemmas.List.FromFn.{length-enumerate_from, get_or-enumerate_from}
use Rattle.cases.specs.Fields.{Leads}
use Rattle.cases.specs.Contents.{Item, Says}
use Rattle.cases.specs.Contents as says
use Rattle.cases.specs.Laws.{packed}
use Rattle.case_text.specs.declared.fault.BadLine.{BadLine}
use Rattle.case_text.specs.Pieces.{lines_of}
use Rattle.case_text.specs.Sayings.{Foregone, field_size, and_then, and_all, at_first, Speaks, Bad, LinesSay}
use Rattle.case_text.specs.Sayings as say
use Rattle.case_text.specs.Packs.{ReadsBack, Packed, StopsAtLine}
use Rattle.case_text.specs.Packs as back
use Rattle.case_text.specs.Parts.{LineTaken, passed, took, LineRefused, AddsField}

-- lines behind lines
say_more : {g : Foregone} {lines more : List (List ℕ)} {items rest : List Item} → LinesSay g lines items → LinesSay (and_all g items) more rest → LinesSay g (lines ++ more) (items ++ rest)
say_more {g} {lines} {more} {items} {rest} (say.nothing e f) h =
    subst (λ (v : List (List ℕ)). LinesSay g (v ++ more) (items ++ rest)) (sym e)
    (subst (λ (v : List Item). LinesSay g more (v ++ rest)) (sym f)
    (subst (λ (v : List Item). LinesSay (and_all g v) more rest) f h))
say_more {g} {lines} {more} {items} {rest} (say.silent e s m) h = say.silent (ap (λ (v : List (List ℕ)). v ++ more) e) s (say_more m h)
say_more {g} {lines} {more} {items} {rest} (say.item {i = i} {rest = is} e s f m) h =
    say.item (ap (λ (v : List (List ℕ)). v ++ more) e) s (ap (λ (v : List Item). v ++ rest) f) (say_more m (subst (λ (v : List Item). LinesSay (and_all g v) more rest) f h))

-- fields behind fields
leads_more : {bytes body rest : List ℕ} {tag : ℕ} (more : List ℕ) → Leads bytes tag body rest → Leads (bytes ++ more) tag body (rest ++ more)
leads_more {bytes} {body} {rest} {tag} more l = record {
  high = l.high;
  low = l.low;
  whole = ap (λ (v : List ℕ). v ++ more) l.whole ∙ ap (λ (v : List ℕ). tag ∷ (l.high ∷ (l.low ∷ v))) (append_assoc body rest more);
  size = l.size;
}

back_more : {bytes more : List ℕ} {items rest : List Item} → ReadsBack bytes items → ReadsBack more rest → ReadsBack (bytes ++ more) (items ++ rest)
back_more {bytes} {more} {items} {rest} (back.nothing e f) h =
    subst (λ (v : List ℕ). ReadsBack (v ++ more) (items ++ rest)) (sym e) (subst (λ (v : List Item). ReadsBack more (v ++ rest)) (sym f) h)
back_more {bytes} {more} {items} {rest} (back.field l s f m) h = back.field (leads_more more l) s (ap (λ (v : List Item). v ++ rest) f) (back_more m h)

back_one : (tag : ℕ) (body : List ℕ) (i : Item) → Says tag body i → ReadsBack (packed tag body) (i ∷ [])
back_one tag body i s =
    back.field
    (record {
      high = length body / 256;
      low = length body % 256;
      whole = ap (λ (v : List ℕ). tag ∷ (length body / 256 ∷ (length body % 256 ∷ v))) (sym (append-nil body));
      size = omega arith;
    })
    s
    refl
    (back.nothing refl refl)

and_more : (g : Foregone) (items : List Item) (i : Item) → and_all g (items ++ (i ∷ [])) ≡ and_then (and_all g items) i
and_more g [] i = refl
and_more g (j ∷ items) i = and_more (and_then g j) items i

-- after these lines: what they said, what stands before the next, and the fields
pub record Held (before : List (List ℕ)) (g : Foregone) (bytes : List ℕ) : Type 0 where
  pub items : List Item
  pub said : LinesSay at_first before items
  pub kept : g ≡ and_all at_first items
  pub back : ReadsBack bytes items
  pub short : g.size ≤ 16384

pub none_held : {g : Foregone} {bytes : List ℕ} → g ≡ at_first → bytes ≡ [] → Held [] g bytes
none_held e f = record { items = []; said = say.nothing refl refl; kept = e; back = back.nothing f refl; short = omega (arith, ap (λ (v : Foregone). v.size) e) }

pub one_more : {before : List (List ℕ)} {g after : Foregone} {bytes line more : List ℕ} → Held before g bytes → LineTaken g bytes line after more → Held (before ++ (line ∷ [])) after more
one_more {before} {g} {after} {bytes} {line} {more} h (passed s e f) = record {
  items = h.items;
  said = subst (LinesSay at_first (before ++ (line ∷ []))) (append-nil h.items) (say_more h.said (say.silent refl s (say.nothing refl refl)));
  kept = e ∙ h.kept;
  back = subst (λ (v : List ℕ). ReadsBack v h.items) (sym f) h.back;
  short = subst (λ (v : Foregone). v.size ≤ 16384) (sym e) h.short;
}
one_more {before} {g} {after} {bytes} {line} {more} h (took i t) = record {
  items = h.items ++ (i ∷ []);
  said = say_more h.said (say.item refl (subst (λ (v : Foregone). Speaks v line i) h.kept t.speaks) refl (say.nothing refl refl));
  kept = t.kept ∙ ap (λ (v : Foregone). and_then v i) h.kept ∙ sym (and_more at_first h.items i);
  back = subst (λ (v : List ℕ). ReadsBack v (h.items ++ (i ∷ []))) (sym t.adds.put) (back_more h.back (back_one t.adds.tag t.adds.body i t.adds.says));
  short = subst (λ (v : Foregone). v.size ≤ 16384) (sym t.kept) t.speaks.place.1;
}

-- the line of this number is the next
pub next_line : (lines : List (List ℕ)) (n i : ℕ) (line : List ℕ) → n < length (enumerate_from 0 lines) → (i, line) ≡ get_or (enumerate_from 0 lines) n (i, line) → (n < length lines) × (i ≡ n) × (line ≡ get_or lines n line)
next_line lines n i line there is =
    let here : n < length lines = omega (arith, there, length-enumerate_from 0 lines) in
    let same = is ∙ get_or-enumerate_from 0 lines n (i, line) here in
    (here, omega (arith, ap (λ (p : ℕ × List ℕ). p.0) same), ap (λ (p : ℕ × List ℕ). p.1) same)

pub gone_on : (lines : List (List ℕ)) (n : ℕ) (line : List ℕ) {g after : Foregone} {bytes grown : List ℕ} → n < length lines → line ≡ get_or lines n line → Held (take n lines) g bytes → LineTaken g bytes line after grown → Held (take (n + 1) lines) after grown
gone_on lines n line {g} {after} {bytes} {grown} there is h t =
    subst (λ (v : List (List ℕ)). Held v after grown) (ap (λ (l : List ℕ). take n lines ++ (l ∷ [])) is ∙ sym (take_more lines n line there)) (one_more h t)

pub ended : (text : List ℕ) (n : ℕ) {g : Foregone} {bytes : List ℕ} → length (lines_of text) ≤ n → g.size ≡ length bytes → Held (take n (lines_of text)) g bytes → Packed text bytes
ended text n all size h = record { items = h.items; said = subst (λ (v : List (List ℕ)). LinesSay at_first v h.items) (take_all n (lines_of text) all) h.said; back = h.back; short = omega (arith, size, h.short) }

pub stopped : (f : BadLine) (text : List ℕ) (n number : ℕ) (line : List ℕ) {g : Foregone} {bytes : List ℕ} → n < length (lines_of text) → line ≡ get_or (lines_of text) n line → number ≡ n + 1 → Held (take n (lines_of text)) g bytes → LineRefused g line number f → StopsAtLine text f.number
stopped f text n number line there is count h bad =
    let lines = lines_of text in
    record {
      before = take n lines;
      line = line;
      behind = drop (n + 1) lines;
      items = h.items;
      split = sym (take-append-drop n lines) ∙ ap (λ (v : List (List ℕ)). take n lines ++ v) (drop_more lines n line there ∙ ap (λ (l : List ℕ). l ∷ drop (n + 1) lines) (sym is));
      count = omega (arith, bad.1, count, length-take-le n lines (omega arith));
      said = h.said;
      bad = subst (λ (v : Foregone). Bad v line) h.kept bad.0;
    }

-- a field more has the bytes that its item says
says_size : (tag : ℕ) (body : List ℕ) (i : Item) → Says tag body i → length body + 3 ≡ field_size i
says_size tag body i (says.a_name t some few p) = ap field_size (sym p)
says_size tag body i (says.a_rule t p) = ap field_size (sym p)
says_size tag body i (says.an_entry t size p) = ap (λ (n : ℕ). n + 3) size ∙ ap field_size (sym p)
says_size tag body i (says.a_tick t size p) = ap (λ (n : ℕ). n + 3) size ∙ ap field_size (sym p)

pub adds_size : {bytes after : List ℕ} {i : Item} → AddsField bytes i after → length after ≡ length bytes + field_size i
adds_size {bytes} {after} {i} a = omega (arith, ap length a.put, length-append bytes (packed a.tag a.body), says_size a.tag a.body i a.says)
