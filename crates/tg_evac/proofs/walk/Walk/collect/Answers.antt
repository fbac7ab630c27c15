use Rattle.std.proofs.Common.{◌≡◌, ◌^◌, ◌≤◌, ℕ, List, length, ap, sym, subst, arith, lit<, ◌∙◌}
use Rattle.std.specs.List.{All}
use Rattle.tg_word.specs.declared.Place.{Place}
use Rattle.tg_space.proofs.Tables.{table_list}
use Rattle.tg_space.specs.Collection.{new_place}
use Rattle.tg_space.specs.SpaceTable.{kept_blocks}
use Rattle.tg_space.specs.declared.kind.Kind.{Kind}
use Rattle.tg_evac.specs.declared.plan.Plan.{Plan}
use Rattle.tg_evac.specs.Claims.{AreClaims, Claimed, IsTracedFrom, cells_won}
use Rattle.tg_evac.specs.Claimers.{HasPlacesOf, copies_to}
use Rattle.tg_evac.specs.Copies.{HoldCells}
use Rattle.tg_evac.specs.Room.{IsReachedFrom}
use Rattle.tg_evac.proofs.Claiming.{has_places}
use Rattle.tg_evac.proofs.Collecting.{AreEnded, AreFilled, collected, few, few_copies, none_young_in, old_few}
use Rattle.tg_evac.proofs.Moved.{moved_few}
use Rattle.tg_evac.proofs.Passing.{collects_refused}
use Rattle.tg_evac.proofs.Sound.{have_pointers}
use Rattle.tg_evac.proofs.walk.Walk.collect.Goals as goal
use Rattle.tg_evac.proofs.walk.Walk.collect.Goals.{After-into_forwarding-forward, In_ok-adoption}

pub trace-requires-clause-walk : goal.trace-requires-clause-walk
trace-requires-clause-walk c =
    let h = c.args.self.spaces.now.spaces in let plan = c.of-plan.ensures.plan in let same = c.in_ok-claims.ensures.plan in
    record {
      pointers = have_pointers h c.args.roots.now c.requires (table_list c.args.self.spaces.now c.cells-cells.ensures.table);
      table = record {
        same = ap (λ (p : Plan). p.kind) same ∙ plan.same;
        whole = c.in_ok-claims.ensures.whole ∙ c.cells-cells.ensures.cells;
        kept = ap (λ (p : Plan). p.kept) same ∙ plan.kept ∙ ap (λ (k : Kind). kept_blocks k h) (sym plan.same ∙ ap (λ (p : Plan). p.kind) (sym same));
      };
    }

-- the claims, with the words as they are handed over
claims_of : After-into_forwarding-forward → Claimed
claims_of c = record { plan = c.of-plan.result; forward = c.into_forwarding-forward.result.words; won = c.trace.new.claims.won; next = c.trace.new.claims.next }

kind_is : (c : After-into_forwarding-forward) → c.in_ok-claims.claims.plan.kind ≡ c.args.self.kind
kind_is c = ap (λ (p : Plan). p.kind) c.in_ok-claims.ensures.plan ∙ c.of-plan.ensures.plan.same

ended : (c : After-into_forwarding-forward) → AreEnded c.args.self.kind c.args.self.spaces.now c.args.roots.now (claims_of c)
unfolding claims_of
ended c =
    let h = c.args.self.spaces.now.spaces in let roots = c.args.roots.now in
    let plan : c.of-plan.result ≡ c.trace.new.claims.plan = sym (c.trace.ensures.plan ∙ c.in_ok-claims.ensures.plan) in
    let words : c.into_forwarding-forward.result.words ≡ c.trace.new.claims.forward = (let same = c.into_forwarding-forward.ensures in let view = c.claims.view_is in cc) in
    let now : claims_of c ≡ c.trace.new.claims = λ i. record { plan = plan i; forward = words i; won = c.trace.new.claims.won; next = c.trace.new.claims.next } in
    record {
      table = c.cells-cells.ensures.table;
      plan = c.of-plan.ensures.plan;
      claims = subst (λ (v : Claimed). AreClaims v) (c.claims.view_is ∙ sym now) c.claims.invariant.0;
      traced = subst (λ (v : Claimed). IsTracedFrom c.args.self.kind h roots v) (sym now) (subst (λ (k : Kind). IsTracedFrom k h roots c.trace.new.claims) (kind_is c) c.in_ok-copies.ensures.traced);
    }

-- the copies, by the words as they are in the end
copies_are : (c : After-into_forwarding-forward) (space : ℕ) (copies : List (List ℕ)) → ((to : ℕ → Place) → HasPlacesOf c.trace.new.claims.won to → copies ≡ copies_to space c.in_ok-claims.claims.plan.kind c.args.self.spaces.now.spaces to c.trace.new.claims.won) →
    copies ≡ copies_to space c.args.self.kind c.args.self.spaces.now.spaces (new_place c.into_forwarding-forward.result.words) c.trace.new.claims.won
unfolding claims_of
copies_are c space copies are =
    let to = new_place c.into_forwarding-forward.result.words in
    are to (has_places (claims_of c) (ended c).claims) ∙ ap (λ (k : Kind). copies_to space k c.args.self.spaces.now.spaces to c.trace.new.claims.won) (kind_is c)

-- the blocks hold them
filled : (c : In_ok-adoption) → AreFilled c.args.self.kind c.args.self.spaces.now.spaces (claims_of (goal.at.In_ok-adoption c).After-into_forwarding-forward) c.in_ok-adoption.adoption.aged c.in_ok-adoption.adoption.old
unfolding claims_of
filled c =
    let from = (goal.at.In_ok-adoption c).After-into_forwarding-forward in let copies = c.in_ok-copies.copies in let adoption = c.in_ok-adoption.adoption in let told = c.in_ok-adoption.ensures in
    record {
      aged_whole = told.aged.1.1;
      old_whole = told.old.1.1;
      in_aged = subst (λ (cells : List (List ℕ)). HoldCells cells adoption.aged) (copies_are from 1 copies.aged c.in_ok-copies.ensures.aged) told.aged.0;
      in_old = subst (λ (cells : List (List ℕ)). HoldCells cells adoption.old) (copies_are from 0 copies.old c.in_ok-copies.ensures.old) told.old.0;
    }

pub finish-requires-clause-aged : goal.finish-requires-clause-aged
unfolding claims_of
finish-requires-clause-aged c =
    subst (λ (cells : List (List ℕ)). length cells ≤ 2 ^ 26) (sym (copies_are c 1 c.in_ok-copies.copies.aged c.in_ok-copies.ensures.aged)) (few_copies c.args.self.kind c.args.self.spaces.now c.args.roots.now (claims_of c) (ended c) 1 (lit< tt))

pub finish-requires-clause-old : goal.finish-requires-clause-old
unfolding claims_of
finish-requires-clause-old c =
    subst (λ (cells : List (List ℕ)). length cells ≤ 2 ^ 26) (sym (copies_are c 0 c.in_ok-copies.copies.old c.in_ok-copies.ensures.old)) (few_copies c.args.self.kind c.args.self.spaces.now c.args.roots.now (claims_of c) (ended c) 0 (lit< tt))

pub notes-requires-clause-forward : goal.notes-requires-clause-forward
unfolding claims_of
notes-requires-clause-forward c =
    let from = (goal.at.notes-requires-clause-forward c).After-into_forwarding-forward in
    record {
      pointers = have_pointers c.args.self.spaces.now.spaces c.args.roots.now c.requires (table_list c.args.self.spaces.now c.cells-cells.ensures.table);
      numbers = record { before = c.of-numbering.ensures.starts; spaces = table_list c.args.self.spaces.now c.cells-cells.ensures.table; whole = (ended from).traced.whole };
    }

pub notes-requires-clause-few : goal.notes-requires-clause-few
unfolding claims_of
notes-requires-clause-few c =
    let at = goal.at.notes-requires-clause-few c in let from = at.After-into_forwarding-forward in
    old_few c.args.self.kind c.args.self.spaces.now c.args.roots.now (claims_of from) (ended from) c.in_ok-adoption.adoption.aged c.in_ok-adoption.adoption.old (filled at.In_ok-adoption)

pub notes-requires-clause-full : goal.notes-requires-clause-full
unfolding claims_of
notes-requires-clause-full c =
    let at = goal.at.notes-requires-clause-full c in let from = at.After-into_forwarding-forward in
    none_young_in c.args.self.kind c.args.self.spaces.now c.args.roots.now (claims_of from) (ended from) c.in_ok-adoption.adoption.aged c.in_ok-adoption.adoption.old (filled at.In_ok-adoption)

pub returns-in_err-claims : goal.returns-in_err-claims
returns-in_err-claims c = collects_refused c.from_residual.result _ c.from_residual.ensures.1 (λ is. absurd (let refused = c.in_err-claims.ensures.refused in cc))

pub returns-in_err-copies : goal.returns-in_err-copies
returns-in_err-copies c =
    let h = c.args.self.spaces.now.spaces in let roots = c.args.roots.now in let plan = c.of-plan.ensures.plan in let claims = c.trace.new.claims in
    let kind : c.in_ok-claims.claims.plan.kind ≡ c.args.self.kind = ap (λ (p : Plan). p.kind) c.in_ok-claims.ensures.plan ∙ plan.same in
    let planned : claims.plan ≡ c.of-plan.result = c.trace.ensures.plan ∙ c.in_ok-claims.ensures.plan in
    let kept = ap (λ (p : Plan). p.kept) planned ∙ plan.kept in
    let room = ap (λ (p : Plan). p.room) planned ∙ plan.room in
    collects_refused c.from_residual-in_err-copies.result _ c.from_residual-in_err-copies.ensures.1 (λ is.
    let told = c.in_err-copies.ensures.full is in
    let all = told.0.all in
    record {
      cells = cells_won claims.won;
      once = told.0.distinct;
      from = subst (λ (k : Kind). All (IsReachedFrom k h roots) (cells_won claims.won)) kind told.1;
      many = omega arith;
    })

pub returns-in_err-adoption : goal.returns-in_err-adoption
returns-in_err-adoption c = collects_refused c.from_residual-in_err-adoption.result _ c.from_residual-in_err-adoption.ensures.1 (λ is. absurd cc)

pub returns-in_err-remembered : goal.returns-in_err-remembered
returns-in_err-remembered c = collects_refused c.from_residual-in_err-remembered.result _ c.from_residual-in_err-remembered.ensures.1 (λ is. absurd cc)

pub returns : goal.returns
unfolding claims_of
returns c =
    let at = goal.at.returns c in let from = at.After-into_forwarding-forward in let done = ended from in let blocks = filled at.In_ok-adoption in
    let kind = c.args.self.kind in let t = c.args.self.spaces.now in let roots = c.args.roots.now in let adoption = c.in_ok-adoption.adoption in let notes = c.in_ok-remembered.remembered.places in
    let is = table_list t c.cells-cells.ensures.table in
    record {
      collected = collected kind t roots (claims_of from) done adoption.aged adoption.old blocks notes c.in_ok-remembered.ensures;
      moved = moved_few kind t.spaces is (have_pointers t.spaces roots c.requires is) roots c.requires.roots_held (claims_of from) done.claims done.traced;
      few = few kind t roots (claims_of from) done adoption.aged adoption.old blocks notes;
      full = tt;
    }
