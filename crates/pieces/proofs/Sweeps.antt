-- The loop of a sweep over plain lists: what holds at each turn, and what is written at its end. It serves every loop that follows a next tick, also one whose steps read cells that are done.
use Rattle.std.proofs.Common.{◌≡◌, ℕ, ◌+◌, ◌<◌, ◌≤◌, List, [], ◌∷◌, ◌++◌, length, take, set, Some, None, Option, sym, refl, ap, ◌∙◌, subst, arith, length-set}
use Rattle.std.proofs.lemmas.List.{length_push}
use Rattle.pieces.specs.declared.piece.Piece.{Piece}
use Rattle.pieces.specs.Ticks.{Steady}
use Rattle.pieces.specs.Pieces.{last_from}
use Rattle.pieces.specs.Cells.{meant, shown, Put, CellsWhole, CellsShort}
use Rattle.pieces.proofs.Steadies.{before_self}
use Rattle.pieces.proofs.Shows.{shown_push}
use Rattle.pieces.proofs.Chains.{Chain, chain_extend, chain_push, chain_listed, chain_begun, last_push}
use Rattle.pieces.proofs.Puts.{put_none, put_push, put_first, put_before}

abbrev pub piece : {V : Type 0} → ℕ → V → Piece V
piece t v = record { start = t; value = v }

-- The first piece, with the value first, stands before the cell `from` in the cells `entered`; since then the pieces went in from there, and they are the list of f up to the tick next.
pub record Going {V C : Type 0} (val : V → C) (f : ℕ → C) (entered : List (Piece V)) (from : ℕ) (first : V) (cells : List (Piece V)) (end : ℕ) (last : V) (next : Option ℕ) : Type 0 where
  pub pieces : List (Piece V)
  pub size : end ≡ from + length pieces
  pub fits : end ≤ length cells
  pub put : Put entered from pieces cells
  pub chain : Chain f (piece 0 (val first)) (shown val pieces) next
  pub ends : val last ≡ last_from (val first) (shown val pieces)

module _ {V C : Type 0} (val : V → C) (f : ℕ → C) where
  -- before the loop
  pub going_first : (cells : List (Piece V)) (from : ℕ) (v : V) (o : Option ℕ) → from ≤ length cells → Steady f 0 (val v) o → Going val f cells from v cells from v o
  going_first cells from v o h s = record { pieces = []; size = omega arith; fits = h; put = put_none cells from; chain = s; ends = refl }

  module _ (entered : List (Piece V)) (from : ℕ) (first : V) (cells : List (Piece V)) (end : ℕ) (last : V) (next : Option ℕ) (G : Going val f entered from first cells end last next) where
    chain_to : (t : ℕ) → next ≡ Some t → Chain f (piece 0 (val first)) (shown val G.pieces) (Some t)
    chain_to t e = subst (λ o. Chain f (piece 0 (val first)) (shown val G.pieces) o) e G.chain

    -- a turn that finds the same value again
    pub going_same : (t : ℕ) (v : V) (o : Option ℕ) → next ≡ Some t → val v ≡ val last → Steady f t (val v) o → Going val f entered from first cells end last o
    going_same t v o e s st = record {
      pieces = G.pieces;
      size = G.size;
      fits = G.fits;
      put = G.put;
      chain = chain_extend f (piece 0 (val first)) (shown val G.pieces) t (val v) o (chain_to t e) (sym G.ends ∙ sym s) st;
      ends = G.ends;
    }

    -- a turn that writes a piece
    pub going_push : (t : ℕ) (v : V) (o : Option ℕ) → next ≡ Some t → (val v ≡ val last → ⊥) → end < length cells → Steady f t (val v) o → Going val f entered from first (set cells end (piece t v)) (end + 1) v o
    going_push t v o e n h st =
        let ps = G.pieces in
        let q : Piece V = piece t v in
        let apart : last_from (val first) (shown val ps) ≡ val v → ⊥ = λ k. n (sym k ∙ sym G.ends) in
        record {
          pieces = ps ++ q ∷ [];
          size = omega (arith, length_push ps q, G.size);
          fits = omega (arith, length-set cells end q, h);
          put = put_push entered cells from end ps q G.size h G.put;
          chain = subst (λ qs. Chain f (piece 0 (val first)) qs o) (sym (shown_push val ps q)) (chain_push f (piece 0 (val first)) (shown val ps) (meant val q) o (chain_to t e) apart st);
          ends = sym (last_push (val first) (shown val ps) (meant val q)) ∙ sym (ap (last_from (val first)) (shown_push val ps q));
        }

    -- the cells before are as they were
    pub going_done : (n : ℕ) → n ≤ from → from ≤ length entered → take n cells ≡ take n entered
    going_done n h k = put_before entered cells from n G.pieces h k G.put

  module _ (before : List (Piece V)) (used : ℕ) (room : used < length before) (first : V) (cells : List (Piece V)) (end : ℕ) (last : V) (next : Option ℕ) (same_length : length cells ≡ length before)
      (G : Going val f (set before used (piece 0 first)) (used + 1) first cells end last next) where
    all_put : Put before used (piece 0 first ∷ G.pieces) cells
    all_put = put_first before cells used (piece 0 first) G.pieces room G.put

    -- the signal changes no more
    pub going_whole : next ≡ None → CellsWhole val f before used cells end
    going_whole e = record {
      pieces = piece 0 first ∷ G.pieces;
      size = omega (arith, G.size);
      fits = omega (arith, G.fits, same_length);
      put = all_put;
      listed = chain_listed f (piece 0 (val first)) (shown val G.pieces) refl (subst (λ o. Chain f (piece 0 (val first)) (shown val G.pieces) o) e G.chain);
    }

    -- a piece is wanted, and no cell is left
    pub going_short : (t : ℕ) (v : V) (o : Option ℕ) → next ≡ Some t → (val v ≡ val last → ⊥) → length cells ≤ end → Steady f t (val v) o → CellsShort val f before used cells
    going_short t v o e n h st = record {
      pieces = piece 0 first ∷ G.pieces;
      full = omega (arith, G.size, same_length);
      put = all_put;
      begins = chain_begun f (piece 0 (val first)) (shown val G.pieces) t refl
          (subst (λ m. Chain f (piece 0 (val first)) (shown val G.pieces) m) e G.chain)
          (λ k. n (st.1 t (omega arith) (before_self t o st.0) ∙ sym k ∙ sym G.ends));
    }

  -- there is no cell at all
  pub no_room : (before : List (Piece V)) (used : ℕ) → length before ≤ used → CellsShort val f before used before
  no_room before used h = record { pieces = []; full = omega arith; put = put_none before used; begins = tt }
