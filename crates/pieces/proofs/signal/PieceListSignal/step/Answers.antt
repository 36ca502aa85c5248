use Rattle.pieces.proofs.Shows.{found_steady}
use Rattle.pieces.proofs.signal.PieceListSignal.step.Goals as goal

pub returns : goal.returns
returns g c = record {
  steady = found_steady g.V.Same.value c.args.self.now.pieces.now c.args.self.now.ok c.args.t c.lookup.result.0 c.lookup.result.1 c.lookup.ensures;
  agree = λ a b. (λ e. e, λ e. e);
  named = c.lookup.ensures;
}
