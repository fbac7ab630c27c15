use Rattle.std.proofs.Common.{◌≡◌, subst}
use Rattle.std.specs.Prelude.{IfSome}
use Rattle.tg_plain.proofs.given.GivenOptions.check.Goals as goal

pub returns : goal.returns
returns c = record {
  workers = subst (λ own. IfSome c.args.self.workers (λ number. number ≡ own)) c.workers_of.ensures c.in_ok-agree.ensures;
  max_vertices = subst (λ own. IfSome c.args.self.max_vertices (λ number. number ≡ own)) c.limit_of.ensures c.in_ok-agree-2.ensures;
  no_stock = c.in_ok-check_stock.ensures;
}
