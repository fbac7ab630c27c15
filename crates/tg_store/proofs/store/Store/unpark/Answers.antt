-- What unparking does on the heap and enters is what it does on the graph.
use Rattle.std.proofs.Common.{◌≡◌, ℕ, ap, refl, subst, sym}
use Rattle.std.proofs.lemmas.Result.{err_from_is_err_and}
use Rattle.tg_model.specs.Graph.{ProtectionGraph, IsSubject}
use Rattle.tg_store.specs.declared.parking.Parking.{Parking}
use Rattle.tg_store.specs.Parking.{IsInUse, KeepsGraph}
use Rattle.tg_store.specs.Unparking.{ComesOfUnparking}
use Rattle.tg_store.specs.Inner.Parking.{parking_of}
use Rattle.tg_store.specs.Store.{StoreState, graph_of_store}
use Rattle.tg_store.proofs.ParkLaws.{IsStore-not_parked, in_use_here, keeps_graph, when_refused}
use Rattle.tg_store.proofs.UnparkLaws.{IsStore-unparked, comes_of_unparking}
use Rattle.tg_store.proofs.StandLaws.{active_seen, stands_inside, subject_here, subject_seen}
use Rattle.tg_store.proofs.Apart.{false_not_true, ok_not_err, refused_as}
use Rattle.tg_store.proofs.store.Store.unpark.Goals as goal

pub invariant_of-self : goal.invariant_of-self
invariant_of-self g c =
    let old : StoreState = record { opening = c.self.inside.opening; entries = c.self.inside.journal.entries; handed = c.self.inside.journal.start; heap = c.self.inside.heap; collections = c.self.inside.collections } in
    let new : StoreState = record { opening = c.self.inside.opening; entries = c.unpark_on.new.journal.entries; handed = c.unpark_on.new.journal.start; heap = c.unpark_on.new.heap; collections = c.self.inside.collections } in
    IsStore-not_parked old new c.self.inside.made refl c.self.inside.journal c.unpark_on.new.journal refl refl c.in_err-parked.ensures.refused c.self.invariant

pub returns-in_err-parked-clause-refused : goal.returns-in_err-parked-clause-refused
returns-in_err-parked-clause-refused g c =
    let old : StoreState = record { opening = c.self.inside.opening; entries = c.self.inside.journal.entries; handed = c.self.inside.journal.start; heap = c.self.inside.heap; collections = c.self.inside.collections } in
    let new : StoreState = record { opening = c.self.inside.opening; entries = c.unpark_on.new.journal.entries; handed = c.unpark_on.new.journal.start; heap = c.unpark_on.new.heap; collections = c.self.inside.collections } in
    when_refused c.from_residual.result (subst (λ (s : StoreState). KeepsGraph s new) c.self.view_is
    (keeps_graph old new c.self.inside.made refl c.self.inside.journal c.unpark_on.new.journal refl refl c.in_err-parked.ensures.refused c.unpark_on.ensures.start refl))

pub invariant_of-self-2 : goal.invariant_of-self-2
invariant_of-self-2 g c =
    let old : StoreState = record { opening = c.self.inside.opening; entries = c.self.inside.journal.entries; handed = c.self.inside.journal.start; heap = c.self.inside.heap; collections = c.self.inside.collections } in
    let new : StoreState = record { opening = c.self.inside.opening; entries = c.unpark_on.new.journal.entries; handed = c.unpark_on.new.journal.start; heap = c.unpark_on.new.heap; collections = c.self.inside.collections } in
    let s = c.in-Some.sides in
    let graph : ProtectionGraph = graph_of_store old in
    let faithful = c.self.invariant.faithful in
    let active = c.in-Some.ensures.active.0 refl in
    let named : parking_of s ≡ c.args.parking = c.in-Some.ensures.named in
    let host : IsSubject graph s.host.name = subst (λ (x : ℕ). IsSubject graph x) (sym (ap (λ (p : Parking). p.host) named)) (subject_here old faithful graph c.args.parking.host refl active.0) in
    let user : IsSubject graph s.user.name = subst (λ (x : ℕ). IsSubject graph x) (sym (ap (λ (p : Parking). p.user) named)) (subject_here old faithful graph c.args.parking.user refl active.1) in
    IsStore-unparked old new c.self.inside.made c.self.invariant s host user refl c.self.inside.journal.entries c.unpark_on.new.journal.entries refl refl c.in_ok-parked.parked c.in_ok-parked.ensures.comes

pub returns-clause-comes : goal.returns-clause-comes
returns-clause-comes g c =
    let old : StoreState = record { opening = c.self.inside.opening; entries = c.self.inside.journal.entries; handed = c.self.inside.journal.start; heap = c.self.inside.heap; collections = c.self.inside.collections } in
    let new : StoreState = record { opening = c.self.inside.opening; entries = c.unpark_on.new.journal.entries; handed = c.unpark_on.new.journal.start; heap = c.unpark_on.new.heap; collections = c.self.inside.collections } in
    let s = c.in-Some.sides in
    let graph : ProtectionGraph = graph_of_store old in
    let faithful = c.self.invariant.faithful in
    let active = c.in-Some.ensures.active.0 refl in
    let named : parking_of s ≡ c.args.parking = c.in-Some.ensures.named in
    let host : IsSubject graph s.host.name = subst (λ (x : ℕ). IsSubject graph x) (sym (ap (λ (p : Parking). p.host) named)) (subject_here old faithful graph c.args.parking.host refl active.0) in
    let user : IsSubject graph s.user.name = subst (λ (x : ℕ). IsSubject graph x) (sym (ap (λ (p : Parking). p.user) named)) (subject_here old faithful graph c.args.parking.user refl active.1) in
    subst (λ (k : StoreState). ComesOfUnparking c.args.parking k new c.in_ok-parked.parked) c.self.view_is
    (subst (λ (p : Parking). ComesOfUnparking p old new c.in_ok-parked.parked) named
    (comes_of_unparking old new c.self.inside.made c.self.invariant s host user refl c.self.inside.journal.entries c.unpark_on.new.journal.entries refl refl c.unpark_on.ensures.start refl
    c.in_ok-parked.parked c.in_ok-parked.ensures.comes))

pub returns-in_default-clause-no_such_worker : goal.returns-in_default-clause-no_such_worker
returns-in_default-clause-no_such_worker g c = λ graph stands.
    ((λ _ both. false_not_true (c.in_default.ensures.active.1 (active_seen c.self.invariant c.self.view_is stands c.args.parking.host both.0, active_seen c.self.invariant c.self.view_is stands c.args.parking.user both.1))), (λ _. refl))

pub returns-in_err-parked-clause-no_such_worker : goal.returns-in_err-parked-clause-no_such_worker
returns-in_err-parked-clause-no_such_worker g c =
    let given = err_from_is_err_and c.from_residual.result c.from_residual.ensures.1 in
    let active = c.in-Some.ensures.active.0 refl in
    λ graph stands. (
      (λ same _. c.in_err-parked.ensures.worker (refused_as given.1 given.2 same)),
      (λ none. absurd (none (subject_seen c.self.invariant c.self.view_is stands c.args.parking.host active.0, subject_seen c.self.invariant c.self.view_is stands c.args.parking.user active.1))),
    )

pub returns-in_err-parked-clause-in_use : goal.returns-in_err-parked-clause-in_use
returns-in_err-parked-clause-in_use g c =
    let old : StoreState = record { opening = c.self.inside.opening; entries = c.self.inside.journal.entries; handed = c.self.inside.journal.start; heap = c.self.inside.heap; collections = c.self.inside.collections } in
    let given = err_from_is_err_and c.from_residual.result c.from_residual.ensures.1 in
    let s = c.in-Some.sides in
    let named : parking_of s ≡ c.args.parking = c.in-Some.ensures.named in
    λ graph stands same.
    let here : IsInUse (graph_of_store old).label s.account s.user.name = in_use_here old s.account s.user.name c.self.invariant.faithful (c.in_err-parked.ensures.in_use (refused_as given.1 given.2 same)) in
    subst (λ (h : ProtectionGraph). IsInUse h.label c.args.parking.account c.args.parking.user) (stands_inside c.self.invariant c.self.view_is stands)
    (subst (λ (p : Parking). IsInUse (graph_of_store old).label p.account p.user) named here)

pub returns-clause-no_such_worker : goal.returns-clause-no_such_worker
returns-clause-no_such_worker g c =
    let active = c.in-Some.ensures.active.0 refl in
    λ graph stands. (
      (λ same _. ok_not_err same),
      (λ none. absurd (none (subject_seen c.self.invariant c.self.view_is stands c.args.parking.host active.0, subject_seen c.self.invariant c.self.view_is stands c.args.parking.user active.1))),
    )
