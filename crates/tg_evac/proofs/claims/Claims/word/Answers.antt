use Rattle.std.proofs.Common.{◌<◌, ℕ, length, subst, sym, ◌∙◌}
use Rattle.tg_evac.specs.Claims.{Claimed, wins_at}
use Rattle.tg_evac.specs.Claimers.{IsClaimLink}
use Rattle.tg_evac.proofs.Claiming.{forward_links}
use Rattle.tg_evac.proofs.claims.Claims.word.Goals as goal

pub returns-clause-link : goal.returns-clause-link
returns-clause-link c some =
    let inside = c.self.inside in
    let v : Claimed = record { plan = inside.plan; forward = inside.forward.words; won = wins_at inside.forward.words inside.won.items; next = inside.next } in
    let low : c.args.cell < length v.forward = subst (λ (x : Claimed). c.args.cell < length x.forward) (sym c.self.view_is) c.requires.inside in
    subst (λ (word : ℕ). IsClaimLink word) (sym c.moved_word.ensures) (forward_links v c.self.invariant.0 c.args.cell low (λ none. some (c.moved_word.ensures ∙ none)))
