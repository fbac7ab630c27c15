-- A run on a kept store, with its exit status.
use Rattle.std.proofs.Common.{◌≡◌, ◌≤◌, ◌∙◌, ℕ, Bool, false, List, length, map, replicate, Option, Result, Ok, Err, ap, refl, subst, sym}
use Rattle.std.proofs.lemmas.List.{length-replicate}
use Rattle.sqlite_disk.specs.declared.Disk as disk
use Rattle.tg_text.specs.declared.answer.Answer.{Answer}
use Rattle.tg_script.specs.declared.parts.ScriptRun.{ScriptRun}
use Rattle.tg_script.specs.Watching.{SeesAll}
use Rattle.tg_lasting.specs.Answering.{KeptEnded}
use Rattle.tg_lasting.specs.declared.fault.KeptFault.{KeptFault}
use Rattle.tg_store.specs.Origin.{Origin}
use Rattle.tg_kept.specs.Keeping.{BeganByOpening, IsFirst}
use Rattle.tg_text.specs.declared.stock.StockItem.TheVariants.{Cell}
use Rattle.tg_script.specs.declared.parts.OpenedScript.{OpenedScript}
use Rattle.tg_script.specs.declared.run_script.RunSetup.{RunSetup}
use Rattle.tg_script.specs.declared.run_script.Settings.{Settings}
use Rattle.tg_script.specs.Parts.{HasOpenedScript}
use Rattle.tg_script.specs.Script.{Start as ScriptStart, start_with}
use Rattle.tgstore.specs.Boxes.{value_of_item}
use Rattle.tgstore.specs.Kept.{ServedKept, SetsUp}
use Rattle.tgstore.specs.Starts.{IsReady}
use Rattle.tgstore.specs.Strict.{seen_if, status_if}
use Rattle.tgstore.specs.declared.start.Start.{Start}
use Rattle.tgstore.proofs.StrictLaws.{status_seen}

pub served_kept : {D P : Type 0} (g : disk.Ghosts D) (start : Start) (r : ScriptRun P) (bytes before : List ℕ) (strict had on saw : Bool) (outcome : Result (Unit {0}) KeptFault) (status : ℕ) (at : D) (after : Option (List ℕ)) → strict ≡ start.strict → had ≡ false → status ≡ status_if start.strict saw
    → KeptEnded g r bytes before (seen_if strict had) outcome at after (seen_if on saw) → ServedKept g start r bytes before outcome status at after
served_kept g start r bytes before strict had on saw (Ok done) status at after same none is h =
    let S : Bool → Type 0 = λ x. SeesAll (seen_if x had) h.0 (seen_if on saw) in
    (h.0, h.1, h.2, h.3, h.4, h.5, is ∙ status_seen start.strict had on saw h.0 none (subst S same h.6))
served_kept g start r bytes before strict had on saw (Err why) status at after same none is h = h

-- ---- a store that was opened

pub first_store : {P : Type 0} (start : ScriptStart) (o : OpenedScript P) → HasOpenedScript start o → IsFirst o.store
first_store start o opened =
    let B : Origin → Type 0 = λ x. BeganByOpening x in
    record { origin = subst B (sym opened.opening) refl; none = opened.none }

-- a setup with as many cells as there are workers, and the boxes of the stock
pub sets_up : {P : Type 0} (start : Start) (setup : RunSetup P) → IsReady start → setup.settings ≡ start.settings → setup.workers.items ≡ replicate start.settings.workers (value_of_item Cell) → setup.stock.items ≡ map value_of_item start.stock.items → SetsUp start setup
sets_up start setup ready settings workers stock =
    let N : Settings → Type 0 = λ x. (1 ≤ x.workers) × (x.workers ≤ 64) in
    record {
      startable = record {
        number = subst N (sym settings) ready;
        workers = ap length workers ∙ length-replicate start.settings.workers (value_of_item Cell) ∙ ap (λ (x : Settings). x.workers) (sym settings);
      };
      same = λ i. start_with (settings i) (workers i) (stock i);
    }
