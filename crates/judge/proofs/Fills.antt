-- Lists that are written one after the other: the first ones stand in the cells, and the next comes behind them or does not fit.
use Rattle.std.proofs.Common.{◌≡◌, ℕ, ◌+◌, ◌<◌, List, [], ◌++◌, length, get_or, take, drop, set, sym, refl, ap, ◌∙◌, subst, ap₂, append_assoc, arith, length-set}
use Rattle.std.proofs.lemmas.List.{length-append, length-map, map-append, take_at, take_all, get_or-take, length-take-le, ext_get_or}
use Rattle.pieces.specs.declared.piece.Piece.{Piece}
use Rattle.pieces.specs.Pieces.{Lists}
use Rattle.pieces.specs.Cells.{shown, meant, CellsWhole, CellsShort}
use Rattle.pieces.proofs.Chains.{only_one, extends}
use Rattle.runs.specs.Calls.{all}
use Rattle.judge.proofs.Stacks.{all_split, Stacked, none_yet, grown, grown_many, pushed, behind_kept}

module _ {V C : Type 0} (val : V → C) (f : ℕ → ℕ → C) where
  -- the lists of f 0, f 1, .. below f k stand in the cells, which are behind them as they were at first
  pub record Filled (first : List (Piece V)) (k : ℕ) (begins : List ℕ) (cells : List (Piece V)) (used : ℕ) : Type 0 where
    pub lists : List (List (Piece C))
    pub many : length lists ≡ k
    pub room : length begins ≡ 65
    pub stacked : Stacked val f lists begins cells used
    pub behind : drop used cells ≡ drop used first

  pub filled_none : (cells : List (Piece V)) (begins : List ℕ) → length begins ≡ 65 → get_or begins 0 0 ≡ 0 → Filled cells 0 begins cells 0
  filled_none cells begins room e = record { lists = []; many = refl; room = room; stacked = none_yet val f begins cells e; behind = refl }

  module _ (first : List (Piece V)) (k : ℕ) (begins : List ℕ) (cells : List (Piece V)) (used : ℕ) (F : Filled first k begins cells used) where
    -- the next list fits
    pub filled_next : k < 64 → (after : List (Piece V)) → length after ≡ length cells → (n : ℕ) → CellsWhole val (f k) cells used after n → Filled first (k + 1) (set begins (k + 1) n) after n
    filled_next few after kept n w = record {
      lists = grown val f F.lists begins cells used F.stacked k F.many after kept n w;
      many = grown_many val f F.lists begins cells used F.stacked k F.many after kept n w;
      room = length-set begins (k + 1) n ∙ F.room;
      stacked = pushed val f F.lists begins cells used F.stacked k F.many after kept n w (omega (arith, F.room));
      behind = behind_kept val f F.lists begins cells used F.stacked k F.many after kept n w first F.behind;
    }

    -- it does not, so the cells are full of the beginning of all lists
    pub filled_out : (pss : List (List (Piece C))) → k < length pss → ((i : ℕ) → i < length pss → Lists (f i) (get_or pss i [])) → (after : List (Piece V)) → length after ≡ length cells → length cells ≡ length first → CellsShort val (f k) cells used after →
        (length first < length (all pss)) × (shown val after ≡ take (length first) (all pss))
    filled_out pss kp each after kept size s =
        let qss = F.lists in
        let qs = shown val s.pieces in
        let long = length-take-le k pss (omega arith) in
        let same : take k pss ≡ qss = ext_get_or [] (take k pss) qss (long ∙ sym F.many) (λ i h.
        let ik : i < k = omega (arith, long) in
        only_one C (f i) (get_or (take k pss) i []) (get_or qss i [])
        (subst (λ zs. Lists (f i) zs) (sym (get_or-take k pss i [] ik)) (each i (omega arith)))
        (F.stacked.listed i (omega (arith, F.many)))) in
        let rest = extends C (f k) qs (get_or pss k []) s.begins (each k kp) in
        let tail = rest.0 in
        let others = all (drop (k + 1) pss) in
        let filled : shown val after ≡ all qss ++ qs =
        ap (shown val) (sym (take_all (used + length s.pieces) after (omega (arith, s.full))) ∙ s.put.0)
        ∙ map-append (meant val) (take used cells) s.pieces ∙ ap (λ zs. zs ++ qs) F.stacked.holds in
        let whole : all pss ≡ (all qss ++ qs) ++ (tail ++ others) =
        all_split pss k kp ∙ ap (λ zss. all zss ++ (get_or pss k [] ++ others)) same ∙ ap (λ zs. all qss ++ (zs ++ others)) rest.1.1
        ∙ ap (λ zs. all qss ++ zs) (append_assoc qs tail others) ∙ sym (append_assoc (all qss) qs (tail ++ others)) in
        let cells_full : length (all qss ++ qs) ≡ length first = sym (ap length filled) ∙ length-map after (meant val) ∙ kept ∙ size in
        let sum : length (all pss) ≡ length first + (length tail + length others) =
        ap length whole ∙ length-append (all qss ++ qs) (tail ++ others) ∙ ap₂ (λ m n. m + n) cells_full (length-append tail others) in
        (omega (arith, sum, rest.1.0), filled ∙ sym (ap (take (length first)) whole ∙ take_at (all qss ++ qs) (tail ++ others) (length first) cells_full))
