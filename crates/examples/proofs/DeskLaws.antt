-- What a command makes of a desk.
use Rattle.std.proofs.Common.{◌≡◌, ◌≢◌, ℕ, Bool, true, false, refl, sym, subst}
use Rattle.tg_rights.specs.RightSet.{RightSet, has, only}
use Rattle.tg_rights.specs.declared.Right.{Right}
use Rattle.tg_rights.specs.declared.Right.TheVariants.{R, W, T, G, A, L, U, V}
use Rattle.tg_model.specs.declared.command.Command.{Command}
use Rattle.tg_model.specs.declared.command.Command.TheVariants.{Grant, Write}
use Rattle.tg_model.specs.declared.command.Deed.TheVariants.{Plain}
use Rattle.tg_model.specs.Graph.{ProtectionGraph}
use Rattle.tg_model.specs.Rules.{step}
use Rattle.tg_store.specs.Store.{StoreState, graph_of_store}
use Rattle.examples.specs.declared.stand_in.desk.TheConstants.{OWNER}
use Rattle.examples.specs.Alone.{HandsOn, IsAlone, Puts, changes, each}
use Rattle.examples.specs.Desk.{DeskState, DeskIsKept}
use Rattle.examples.proofs.AloneLaws.{alone-step, left-step}

abbrev at_desk : StoreState → ℕ → ℕ → DeskState
at_desk store thing stand_in = record { store = store; thing = thing; stand_in = stand_in }

module _ (old new : StoreState) (thing stand_in worker : ℕ) (command : Command) (kept : DeskIsKept (at_desk old thing stand_in))
    (steps : graph_of_store new ≡ step (graph_of_store old) worker (Plain command)) where
  -- whatever doesn't hand the owner's on keeps it the owner's
  pub kept-step : (worker ≡ OWNER → HandsOn each thing (Plain command) → ⊥) → (worker ≡ OWNER → HandsOn changes stand_in (Plain command) → ⊥) → DeskIsKept (at_desk new thing stand_in)
  kept-step withholds leaves = record {
    apart = kept.apart;
    thing = subst (λ (h : ProtectionGraph). IsAlone each OWNER thing h) (sym steps)
        (alone-step each OWNER thing (graph_of_store old) kept.thing worker (Plain command) withholds);
    stand_in = subst (λ (h : ProtectionGraph). IsAlone changes OWNER stand_in h) (sym steps)
        (alone-step changes OWNER stand_in (graph_of_store old) kept.stand_in worker (Plain command) leaves);
  }

  -- a command of a client
  pub kept-client : worker ≢ OWNER → DeskIsKept (at_desk new thing stand_in)
  kept-client client = kept-step (λ same hands. client same) (λ same hands. client same)

  -- what stands in stays where nothing is put into it
  pub shown-step : (worker ≡ OWNER → Puts stand_in (Plain command) → ⊥) → (graph_of_store new).value stand_in ≡ (graph_of_store old).value stand_in
  shown-step leaves =
      subst (λ (h : ProtectionGraph). h.value stand_in ≡ (graph_of_store old).value stand_in) (sym steps)
      (left-step OWNER stand_in (graph_of_store old) kept.stand_in worker (Plain command) leaves)

-- the right to read changes nothing
reads_only : (right : Right) → changes right ≡ true → has (only R) right ≡ true → ⊥
reads_only R is held = cc is
reads_only W is held = cc held
reads_only T is held = cc is
reads_only G is held = cc is
reads_only A is held = cc held
reads_only L is held = cc is
reads_only U is held = cc is
reads_only V is held = cc is

-- to hand the right to read what stands in on is to hand none of the owner's on
pub hands_none : (rights : RightSet) (via y : ℕ) → rights ≡ only R → HandsOn changes y (Plain (Grant rights via y)) → ⊥
hands_none rights via y is (same, (right, which, held)) =
    reads_only right which (subst (λ (s : RightSet). has s right ≡ true) is held)
