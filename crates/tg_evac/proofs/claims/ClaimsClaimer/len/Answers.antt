use Rattle.std.proofs.Common.{◌≡◌, ◌≤◌, ◌^◌, length, ap, subst, arith}
use Rattle.tg_evac.specs.Claims.{Claimed, won_in, wins_at}
use Rattle.tg_evac.proofs.Claiming.{in_room, won_behind, won_length}
use Rattle.tg_evac.proofs.claims.ClaimsClaimer.len.Goals as goal

pub returns-clause-few : goal.returns-clause-few
returns-clause-few c =
    let inside = c.self.inside in
    let v : Claimed = record { plan = inside.plan; forward = inside.forward.words; won = wins_at inside.forward.words inside.won.items; next = inside.next } in
    let few = won_behind v c.self.invariant.0 0 (λ k d low. omega arith) in let cells = won_length inside.forward.words inside.won.items in
    subst (λ (x : Claimed). c.len.result ≤ length x.forward) c.self.view_is (omega (arith, c.len.ensures, inside.won.ok))

pub returns-clause-count : goal.returns-clause-count
returns-clause-count c =
    let inside = c.self.inside in
    let cells = won_length inside.forward.words inside.won.items in
    let count : length (wins_at inside.forward.words inside.won.items) ≡ length c.args.self.now.won = ap (λ (x : Claimed). length x.won) c.self.view_is in
    omega (arith, c.len.ensures, inside.won.ok)

pub returns-clause-room : goal.returns-clause-room
returns-clause-room c space two =
    let inside = c.self.inside in
    let v : Claimed = record { plan = inside.plan; forward = inside.forward.words; won = wins_at inside.forward.words inside.won.items; next = inside.next } in
    subst (λ (x : Claimed). length (won_in space x.won) ≤ 2 ^ 26) c.self.view_is (in_room v c.self.invariant.0 space two)
