-- The lines that are no edge lines, one after the other.
use mathlib.Core.Bool.{false≢true}
use Rattle.std.proofs.Common.{◌≡◌, inl, inr, ℕ, false, List, [], ◌∷◌, ◌++◌, Option, Some, Err, refl, sym, ap, ◌∙◌, subst, append_assoc, append-nil}
use Rattle.tg_model.specs.declared.value.Value.{Value}
use Rattle.tg_journal.specs.declared.entry.Entry.{Entry}
use Rattle.tg_text.specs.declared.line.Line.{Line}
use Rattle.tg_text.specs.declared.line.Line.TheVariants as line
use Rattle.tg_text.specs.declared.answer.Answer.{Answer}
use Rattle.tg_text.specs.declared.fault.ScriptFault.{ScriptFault}
use Rattle.tg_text.specs.declared.fault.ScriptFault.TheVariants as fault
use Rattle.tg_script.specs.declared.script.Script.{Script}
use Rattle.tg_script.specs.declared.run.Run.{Run}
use Rattle.tg_text.specs.Sinks.{Wrote, WroteSome}
use Rattle.tg_script.specs.Entering.{entered}
use Rattle.tg_script.specs.Script.{Scene}
use Rattle.tg_script.specs.Lines.{ReadsFrom, PassesLine, Follows, IsRestAfter, IsOfReading}
use Rattle.tg_script.specs.Opening.{IsCommand}
use Rattle.tg_script.specs.Inner.Run.{Shows, Handles, MakesEntry}
use Rattle.tg_script.specs.Inner.Supply.{values_left}
use Rattle.tg_script.specs.Inner.Telling.{LineText, TellsLines, TellsCut, IsTold, StandsTold, CutsTold, TellsAll}
use Rattle.tg_script.proofs.LinesLaws.{reads_behind, behind-append, may_stop_writing}

-- ---- one line and those behind it

-- Where the run is: what it shows, what is left, what was written and entered, and that whatever is told from here on is told from
-- the start.
pub record Under {P : Type 0} (told : LineText) (start : Script) (bytes : List ℕ) (t : Scene) (first : Line) (begun : List Entry) (before : List ℕ) (s : Script) (r : Run P) (l : Line) (left taken : Option (List ℕ)) : Type 0 where
  pub scene : Scene
  pub rest : List ℕ
  pub sofar : List ℕ
  pub made : List Entry
  pub shows : Shows r scene
  pub leaves : left ≡ Some rest
  pub took : taken ≡ Some (before ++ sofar)
  pub had : r.store.entries ≡ begun ++ made
  pub cuts : (lines : List Line) (behind cut : List ℕ) (es : List Entry) → ReadsFrom s rest lines (Some fault.WriteFailed) behind → IsRestAfter lines rest behind → TellsCut told scene (l ∷ lines) cut es → CutsTold told start bytes t first behind (sofar ++ cut) (made ++ es)
  pub goes_on : (lines : List Line) (end : Option ScriptFault) (behind text : List ℕ) (es : List Entry) → ReadsFrom s rest lines end behind → TellsLines told scene (l ∷ lines) text es → IsTold told start bytes t first end behind (sofar ++ text) (made ++ es)

pub under_first : {P : Type 0} {told : LineText} {start : Script} {bytes : List ℕ} {t : Scene} {before : List ℕ} {r : Run P} {left taken : Option (List ℕ)} (first l : Line) → first ≡ l → Shows r t → left ≡ Some bytes → taken ≡ Some before → Under told start bytes t first r.store.entries before start r l left taken
under_first {told = told} {start = start} {bytes = bytes} {t = t} {before = before} {r = r} first l same shows leaves took = record {
  scene = t;
  rest = bytes;
  sofar = [];
  made = [];
  shows = shows;
  leaves = leaves;
  took = took ∙ ap Some (sym (append-nil before));
  had = sym (append-nil r.store.entries);
  cuts = λ lines behind cut es reads is_behind is_cut. (lines, reads, is_behind, subst (λ (x : Line). TellsCut told t (x ∷ lines) cut es) (sym same) is_cut);
  goes_on = λ lines end behind text es reads tells. (lines, reads, subst (λ (x : Line). TellsLines told t (x ∷ lines) text es) (sym same) tells);
}

wrote_known : (W : Option (List ℕ) → List ℕ → Option (List ℕ) → Type 0) (taken after : Option (List ℕ)) (known bytes : List ℕ) → taken ≡ Some known → W taken bytes after → W (Some known) bytes after
wrote_known W taken after known bytes is w = subst (λ x. W x bytes after) is w

-- the entry of this line is after those before
had_more : {P : Type 0} (begun made : List Entry) (r r' : Run P) (l : Line) (a : Answer) (stock : List Value) → r.store.entries ≡ begun ++ made → values_left r.supply ≡ stock → MakesEntry r l a r' → r'.store.entries ≡ begun ++ (made ++ entered l a stock)
had_more begun made r r' l a stock had is makes =
    makes.entries ∙ ap (λ (x : List Value). r.store.entries ++ entered l a x) is ∙ ap (λ (x : List Entry). x ++ entered l a stock) had ∙ append_assoc begun made (entered l a stock)

-- what is reported of a line is written, and nothing more is read
pub under_end : {P : Type 0} {told : LineText} {start : Script} {bytes : List ℕ} {t : Scene} {first : Line} {begun : List Entry} {before : List ℕ} {s : Script} {r : Run P} {l : Line} {left taken : Option (List ℕ)} (a : Answer) (r' : Run P) (after : Option (List ℕ)) (end : Option ScriptFault) (behind : List ℕ) (h : Under told start bytes t first begun before s r l left taken) → Handles r l a r' → MakesEntry r l a r' → Wrote taken (told l a (values_left r.supply)) after → ReadsFrom s h.rest [] end behind → StandsTold told start bytes t first begun before end behind r'.store.entries after
under_end {told = told} {start = start} {bytes = bytes} {t = t} {first = first} {begun = begun} {before = before} {s = s} {r = r} {l = l} {left = left} {taken = taken} a r' after end behind h handles makes wrote ends =
    let v = handles h.scene h.shows in
    let stock = h.scene.stock in
    let W : List Value → Type 0 = λ x. Wrote taken (told l a x) after in (
      h.sofar ++ told l a stock,
      h.made ++ entered l a stock,
      wrote_known Wrote taken after (before ++ h.sofar) (told l a stock) h.took (subst W h.shows.1 wrote) ∙ ap Some (append_assoc before h.sofar (told l a stock)),
      had_more begun h.made r r' l a stock h.had h.shows.1 makes,
      h.goes_on [] end behind (told l a stock) (entered l a stock) ends (a, v.0, [], [], v.2, sym (append-nil (told l a stock)), sym (append-nil (entered l a stock)), (refl, refl)),
    )

-- what is reported of a line is cut short, and nothing more is read
pub under_cut : (T : Type 0) {P : Type 0} {told : LineText} {start : Script} {bytes : List ℕ} {t : Scene} {first : Line} {begun : List Entry} {before : List ℕ} {s : Script} {r : Run P} {l : Line} {left taken : Option (List ℕ)} (a : Answer) (r' : Run P) (after : Option (List ℕ)) → Under told start bytes t first begun before s r l left taken → Handles r l a r' → MakesEntry r l a r' → WroteSome taken (told l a (values_left r.supply)) after → (rest : List ℕ) × (left ≡ Some rest) × TellsAll {T = T} told start bytes t first begun before (Err fault.WriteFailed) rest r'.store.entries after
under_cut T {told = told} {start = start} {bytes = bytes} {t = t} {first = first} {begun = begun} {before = before} {s = s} {r = r} {l = l} {left = left} {taken = taken} a r' after h handles makes wrote =
    let v = handles h.scene h.shows in
    let stock = h.scene.stock in
    let W : List Value → Type 0 = λ x. WroteSome taken (told l a x) after in
    let w = wrote_known WroteSome taken after (before ++ h.sofar) (told l a stock) h.took (subst W h.shows.1 wrote) in (
      h.rest,
      h.leaves,
      inr (
        h.sofar ++ w.0,
        h.made ++ entered l a stock,
        w.3 ∙ ap Some (append_assoc before h.sofar w.0),
        had_more begun h.made r r' l a stock h.had h.shows.1 makes,
        h.cuts [] h.rest w.0 (entered l a stock) (may_stop_writing s.workers s.lines.room s.count s.opening h.rest) refl (a, v.0, w.1, v.2, w.2, refl),
      ),
    )

as_one : {X Y : Type 0} (P : X → Y → Type 0) {a b : X} {c d : Y} → a ≡ b → c ≡ d → P b d → P a c
as_one P {b = b} {c = c} e f h = subst (λ x. P x c) (sym e) (subst (λ y. P b y) (sym f) h)

-- what is reported of a line is written, and a further line is read
pub under_next : {P : Type 0} {told : LineText} {start : Script} {bytes : List ℕ} {t : Scene} {first : Line} {begun : List Entry} {before : List ℕ} {s : Script} {r : Run P} {l : Line} {left taken : Option (List ℕ)} (a : Answer) (r' : Run P) (after : Option (List ℕ)) (next : Line) (s' : Script) (left' : Option (List ℕ)) → Under told start bytes t first begun before s r l left taken → Handles r l a r' → MakesEntry r l a r' → Wrote taken (told l a (values_left r.supply)) after → ((rest : List ℕ) → left ≡ Some rest → (rest' : List ℕ) × (left' ≡ Some rest') × PassesLine s rest next s' rest') → Under told start bytes t first begun before s' r' next left' after
under_next {told = told} {start = start} {bytes = bytes} {t = t} {first = first} {begun = begun} {before = before} {s = s} {r = r} {l = l} {left = left} {taken = taken} a r' after next s' left' h handles makes wrote came =
    let v = handles h.scene h.shows in
    let n = came h.rest h.leaves in
    let stock = h.scene.stock in
    let W : List Value → Type 0 = λ x. Wrote taken (told l a x) after in
    record {
      scene = v.0;
      rest = n.0;
      sofar = h.sofar ++ told l a stock;
      made = h.made ++ entered l a stock;
      shows = v.1;
      leaves = n.1;
      took = wrote_known Wrote taken after (before ++ h.sofar) (told l a stock) h.took (subst W h.shows.1 wrote) ∙ ap Some (append_assoc before h.sofar (told l a stock));
      had = had_more begun h.made r r' l a stock h.had h.shows.1 makes;
      cuts = λ lines behind cut es reads is_behind is_cut.
          let one = reads_behind (next ∷ []) s.workers s.lines.room s.count s.opening h.rest n.0 (n.2 [] (Some fault.OutOfMemory) n.0 refl) in
          as_one (CutsTold told start bytes t first behind) (append_assoc h.sofar (told l a stock) cut) (append_assoc h.made (entered l a stock) es)
          (h.cuts (next ∷ lines) behind (told l a stock ++ cut) (entered l a stock ++ es) (n.2 lines (Some fault.WriteFailed) behind reads)
          (behind-append (next ∷ []) lines h.rest n.0 behind one is_behind) (a, v.0, cut, es, v.2, refl, refl, is_cut));
      goes_on = λ lines end behind text es reads tells.
          as_one (IsTold told start bytes t first end behind) (append_assoc h.sofar (told l a stock) text) (append_assoc h.made (entered l a stock) es)
          (h.goes_on (next ∷ lines) end behind (told l a stock ++ text) (entered l a stock ++ es) (n.2 lines end behind reads) (a, v.0, text, es, v.2, refl, refl, tells));
    }

-- ---- faults

pub tells_fault : (T : Type 0) (f : ScriptFault) (told : LineText) (s : Script) (bytes : List ℕ) (t : Scene) (first : Line) (begun : List Entry) (before left : List ℕ) (entries : List Entry) (after : Option (List ℕ)) → IsOfReading f → StandsTold told s bytes t first begun before (Some f) left entries after → TellsAll {T = T} told s bytes t first begun before (Err f) left entries after
tells_fault T fault.WriteFailed told s bytes t first begun before left entries after r h = inl h
tells_fault T fault.OutOfMemory told s bytes t first begun before left entries after r h = absurd r
tells_fault T fault.HeapFull told s bytes t first begun before left entries after r h = absurd r
tells_fault T fault.BadLimits told s bytes t first begun before left entries after r h = absurd r
tells_fault T f told s bytes t first begun before left entries after r h = (r, h)

-- a line that came after another that is no edge line is no edge line
pub next_command : (s : Script) (l : Line) (t : Script) → s.opening ≡ false → Follows s l t → IsCommand l × (t.opening ≡ false)
next_command s (line.Edge edge) t closed f = absurd (false≢true (sym closed ∙ f.stands.0))
next_command s l t closed f = (tt, f.opening)
