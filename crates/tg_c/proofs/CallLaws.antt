-- Calls on a place: what the store was found to answer, and what C gets of that.
use Rattle.std.proofs.Common.{◌≡◌, ℕ, refl, true, false, sym, subst, ap, ◌∙◌, Result, Ok, Err, List, Option, Some, None}
use Rattle.tg_rights.specs.RightSet.{RightSet}
use Rattle.tg_model.specs.Graph.{ProtectionGraph}
use Rattle.tg_model.specs.Rules.{answer_of, denial_of, denied_or, reply_of}
use Rattle.tg_model.specs.declared.command.Command.{Command}
use Rattle.tg_model.specs.declared.command.Command.TheVariants as command
use Rattle.tg_model.specs.declared.command.Deed.TheVariants.{Plain}
use Rattle.tg_model.specs.declared.reply.Denial.{Denial}
use Rattle.tg_model.specs.declared.reply.Reply.{Reply}
use Rattle.tg_model.specs.declared.reply.Reply.TheVariants.{Denied}
use Rattle.tg_store.specs.Store.{StoreState}
use Rattle.tg_c.specs.declared.place.StorePlace.{StorePlace}
use Rattle.tg_model.specs.declared.making.Making.{Making}
use Rattle.tg_c.specs.declared.forms.EdgeOut.{EdgeOut}
use Rattle.tg_c.specs.declared.forms.ValueIn.{ValueIn}
use Rattle.tg_c.specs.declared.refusal.CallRefusal.{CallRefusal}
use Rattle.tg_c.specs.declared.refusal.CallRefusal.TheVariants.{NotOpen}
use Rattle.tg_c.specs.Calls.{Applies, Asks, AsksWithRights, IsCall, IsReplyTo, IsShown, Makes, MakesOfForms, state_in}
use Rattle.tg_c.specs.Forms.{label_at}
use Rattle.tg_c.specs.Ending.{AreEdgesShown}
use Rattle.tg_c.specs.Statuses.{TellsEdges, TellsNames, TellsNumber, of_apply, of_create, refused_as}

-- a refusal that C knows already
pub as_it_is : {T : Type 0} (answer : Result T CallRefusal) → refused_as (λ why. why) answer ≡ answer
as_it_is (Ok value) = refl
as_it_is (Err why) = refl

-- a closed place: the call was refused
pub not_open : {T E : Type 0} (name : E → CallRefusal) (holds : StoreState → StoreState → Result T E → Type 0) (old new : StorePlace) (result : Result T CallRefusal)
    → old.is_open ≡ false → new.is_open ≡ false → result ≡ Err NotOpen → IsCall name holds old new (λ told. result ≡ told)
not_open name holds old new result was is told = record { not_open = λ _. (told, is); served = λ is_open. absurd (cc (was, is_open)) }

-- an open place: the store, which was and is in it, gave this answer, and what is told is more than the answer
pub served_as : {T E : Type 0} (name : E → CallRefusal) (holds : StoreState → StoreState → Result T E → Type 0) (old new : StorePlace) (tells : Result T CallRefusal → Type 0)
    (before after : StoreState) (answer : Result T E)
    → old.is_open ≡ true → new.is_open ≡ true → state_in old ≡ before → state_in new ≡ after → tells (refused_as name answer)
    → holds before after answer → IsCall name holds old new tells
served_as name holds old new tells before after answer was is first last told held = record {
  not_open = λ closed. absurd (cc (closed, was));
  served = λ _. record {
    answer = answer;
    told = told;
    stays_open = is;
    holds_of = subst (λ s. holds s (state_in new) answer) (sym first) (subst (λ s. holds before s answer) (sym last) held);
  };
}

-- the same, where the answer is reported
pub served : {T E : Type 0} (name : E → CallRefusal) (holds : StoreState → StoreState → Result T E → Type 0) (old new : StorePlace) (result : Result T CallRefusal)
    (before after : StoreState) (answer : Result T E)
    → old.is_open ≡ true → new.is_open ≡ true → state_in old ≡ before → state_in new ≡ after → result ≡ refused_as name answer
    → holds before after answer → IsCall name holds old new (λ told. result ≡ told)
served name holds old new result before after answer was is first last told held =
    served_as name holds old new (λ told. result ≡ told) before after answer was is first last told held

-- what the call told is what C gets
pub hears_as : {T E : Type 0} (name : E → CallRefusal) (holds : StoreState → StoreState → Result T E → Type 0) (old new : StorePlace) (first second : Result T CallRefusal → Type 0)
    → IsCall name holds old new first → ((told : Result T CallRefusal) → first told → second told) → IsCall name holds old new second
hears_as name holds old new first second call next = record {
  not_open = λ closed. (next (Err NotOpen) (call.not_open closed).0, (call.not_open closed).1);
  served = λ is_open. record {
    answer = (call.served is_open).answer;
    told = next (refused_as name (call.served is_open).answer) (call.served is_open).told;
    stays_open = (call.served is_open).stays_open;
    holds_of = (call.served is_open).holds_of;
  };
}

-- what the call answered is what C gets
pub hears : {T E : Type 0} (name : E → CallRefusal) (holds : StoreState → StoreState → Result T E → Type 0) (old new : StorePlace) (result : Result T CallRefusal)
    (tells : Result T CallRefusal → Type 0) → IsCall name holds old new (λ told. result ≡ told) → tells result → IsCall name holds old new tells
hears name holds old new result tells call told =
    hears_as name holds old new (λ answer. result ≡ answer) tells call (λ answer is. subst tells is told)

-- a denial or this reply, each of which may be told
denied_or_told : (P : Reply → Type 0) (denial : Option Denial) (r : Reply) → ((why : Denial) → P (Denied why)) → P r → P (denied_or denial r)
denied_or_told P None r may is = is
denied_or_told P (Some denial) r may is = may denial

-- the graph's answer to a command is one that the command can have
pub reply_fits : (asked : Command) (g : ProtectionGraph) (x : ℕ) → IsReplyTo asked (answer_of g x (Plain asked))
reply_fits command.List g x = tt
reply_fits command.Retire g x = tt
reply_fits asked g x = denied_or_told (λ r. IsReplyTo asked r) (denial_of g.label g.value x asked) (reply_of g.label g.value g.made x asked) (λ why. tt) tt

or_else : {X : Type 0} → X → Option X → X
or_else other None = other
or_else other (Some x) = x

-- the same, where what was asked for is what is asked about
pub hears_at : {X T E : Type 0} (name : E → CallRefusal) (holds : X → StoreState → StoreState → Result T E → Type 0) (o : Option X) (made asked : X)
    (old new : StorePlace) (result : Result T CallRefusal) (tells : Result T CallRefusal → Type 0) → o ≡ Some made → o ≡ Some asked
    → IsCall name (holds made) old new (λ told. result ≡ told) → tells result → IsCall name (holds asked) old new tells
unfolding or_else
hears_at name holds o made asked old new result tells first second call told =
    subst (λ x. IsCall name (holds x) old new tells) (ap (or_else made) (sym first ∙ second)) (hears name (holds made) old new result tells call told)

-- what a call that makes a vertex answered is what C gets
pub makes_told : (kind : Making) (old new : StorePlace) (worker rights : ℕ) (value : ValueIn) (result : Result ℕ CallRefusal) (tells : Result ℕ CallRefusal → Type 0)
    → MakesOfForms kind old new worker rights value (λ told. result ≡ told) → tells result → MakesOfForms kind old new worker rights value tells
makes_told kind old new worker rights value result tells call told = record {
  bad_rights = λ none. let had = call.bad_rights none in (had.0, subst tells had.1 told);
  bad_law = λ label is none. let had = call.bad_law label is none in (had.0, subst tells had.1 told);
  made = λ label is stored is_stored. hears of_create (Makes kind worker label stored) old new result tells (call.made label is stored is_stored) told;
}

-- what a command with a label answered is what C gets
pub asks_told : (with_label : RightSet → Command) (old new : StorePlace) (worker rights : ℕ) (label : RightSet) (result : Result Reply CallRefusal) (tells : Result Reply CallRefusal → Type 0)
    → label_at rights ≡ Some label → Asks old new worker (with_label label) (λ told. result ≡ told) → tells result → AsksWithRights old new worker rights with_label tells
asks_told with_label old new worker rights label result tells is call told = record {
  asked = λ asked same. hears_at of_apply (λ l. Applies worker (with_label l)) (label_at rights) label asked old new result tells is same call told;
  bad_rights = λ none. absurd (cc (none, is));
}

-- names that were put into a room are told with their number
pub names_told : (status old new : ℕ) (room after : List ℕ) (answer : Result ℕ CallRefusal) (told : Result (List ℕ) CallRefusal) → TellsNumber status old new answer → IsShown room after answer told
    → TellsNames status (record { count = old; names = room }) (record { count = new; names = after }) told
names_told status old new room after answer (Ok names) number shown =
    let both = subst (λ a. TellsNumber status old new a) shown.0 number in (both.0, λ i. record { count = both.1 i; names = shown.1 i })
names_told status old new room after answer (Err why) number shown =
    let both = subst (λ a. TellsNumber status old new a) shown.0 number in (both.0, λ i. record { count = both.1 i; names = shown.1 i })

-- the same of edges
pub edges_told : (status old new : ℕ) (room after : List EdgeOut) (answer : Result ℕ CallRefusal) (told : Result (List (ℕ × RightSet)) CallRefusal) → TellsNumber status old new answer → AreEdgesShown room after answer told
    → TellsEdges status (record { count = old; edges = room }) (record { count = new; edges = after }) told
edges_told status old new room after answer (Ok edges) number shown =
    let both = subst (λ a. TellsNumber status old new a) shown.0 number in (both.0, λ i. record { count = both.1 i; edges = shown.1 i })
edges_told status old new room after answer (Err why) number shown =
    let both = subst (λ a. TellsNumber status old new a) shown.0 number in (both.0, λ i. record { count = both.1 i; edges = shown.1 i })
