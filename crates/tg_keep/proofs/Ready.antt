-- A put, by what it needs and what its calls of the disk ensure.
use Rattle.std.proofs.Common.{◌≡◌, ℕ, ◌+◌, ◌<◌, ◌≤◌, List, ◌++◌, length, get_or, take, sym, ◌∙◌, ap, subst, arith}
use Rattle.sqlite_disk.specs.Disk.{Follows, Holds, Mixed, Only, Torn}
use Rattle.tg_keep.specs.Lines.{first_sum, file_texts, last_sum_after, length_after, texts_after}
use Rattle.tg_keep.specs.Fronts.{AddsFront}
use Rattle.sqlite_disk.specs.declared.Disk as disk
use Rattle.std.specs.Prelude.{IsTrue}
use Rattle.tg_keep.specs.Files.{AwaitsBatch, IsSynced, MayWrite}
use Rattle.tg_keep.specs.declared.file.LineFile.{LineFile}
use Rattle.tg_keep.proofs.Joined.{AreWhole}
use Rattle.tg_keep.proofs.Putting.{may_leave_front, new_last, new_whole, new_zeros, puts_all, same_length}

-- the file is settled, and the batch goes on with it and has room
pub record IsReady (file : List ℕ) (end : ℕ) (bytes before : List ℕ) : Type 0 where
  pub within : end ≤ length file
  pub zeros : (i : ℕ) → end ≤ i → get_or file i 0 ≡ 0
  pub whole : length_after first_sum (take end file) ≡ end
  pub fits : end + length bytes < length file
  pub last : before ≡ last_sum_after first_sum (take end file)
  pub batch : AreWhole before bytes

pub ready : {D : Type 0} (seen : D → List ℕ) (may_leave : D → List ℕ → Type 0) (file : LineFile D) (bytes before : List ℕ)
    → IsSynced seen may_leave file → before ≡ file.sum.digits → file.end + length bytes < file.length → AreWhole before bytes → IsReady (seen file.disk) file.end bytes before
ready seen may_leave file bytes before settled follows room batch = record {
  within = omega (arith, room, settled.size);
  zeros = settled.zeros;
  whole = settled.whole;
  fits = omega (arith, room, settled.size);
  last = follows ∙ settled.last;
  batch = batch;
}

-- once the write was begun, a crash leaves a front
pub begun : (file : List ℕ) (end : ℕ) (bytes before given : List ℕ) → IsReady file end bytes before → given ≡ bytes → (old new : List ℕ → Type 0) → Only file old → Follows (Mixed end given) old new
    → (c : List ℕ) → new c → AddsFront (file_texts file) (texts_after before bytes) (file_texts c)
begun file end bytes before given r is old new only follows =
    let P : List ℕ → Type 0 = λ b. Follows (Mixed end b) old new in
    may_leave_front file end r.within r.zeros r.whole bytes before r.fits r.last old new only (subst P is follows)

-- the write is done
pub record IsDone (file : List ℕ) (end : ℕ) (bytes before c : List ℕ) : Type 0 where
  pub size : length c ≡ length file
  pub texts : file_texts c ≡ file_texts file ++ texts_after before bytes
  pub whole : length_after first_sum (take (end + length bytes) c) ≡ end + length bytes
  pub last : last_sum_after before bytes ≡ last_sum_after first_sum (take (end + length bytes) c)
  pub zeros : (i : ℕ) → end + length bytes ≤ i → get_or c i 0 ≡ 0

pub done : (file : List ℕ) (end : ℕ) (bytes before given c : List ℕ) → IsReady file end bytes before → given ≡ bytes → Torn end (length given) file c → (0 < length given → Holds c end given) → IsDone file end bytes before c
done file end bytes before given c r is torn holds =
    let P : List ℕ → Type 0 = λ b. Torn end (length b) file c in
    let Q : List ℕ → Type 0 = λ b. 0 < length b → Holds c end b in
    let t : Torn end (length bytes) file c = subst P is torn in
    let h : 0 < length bytes → Holds c end bytes = subst Q is holds in
    let each : (i : ℕ) → i < length bytes → get_or c (end + i) 0 ≡ get_or bytes i 0 = λ i lt. (h (omega arith)).each i lt in
    record {
      size = same_length file end r.within r.zeros r.whole bytes c r.fits t;
      texts = puts_all file end r.within r.zeros r.whole bytes c r.fits t each before r.last r.batch;
      whole = new_whole file end r.within r.zeros r.whole bytes c r.fits t each before r.last r.batch;
      last = sym (new_last file end r.within r.zeros r.whole bytes c r.fits t each before r.last r.batch);
      zeros = new_zeros file end r.within r.zeros r.whole bytes c r.fits t each;
    }

-- and synced: the file is settled again
pub settled_again : {D : Type 0} (seen : D → List ℕ) (may_leave : D → List ℕ → Type 0) (new : LineFile D) (file : List ℕ) (end : ℕ) (bytes before c : List ℕ)
    → IsReady file end bytes before → IsDone file end bytes before c → new.end ≡ end + length bytes → new.length ≡ length file → new.sum.digits ≡ last_sum_after before bytes
    → seen new.disk ≡ c → Only c (may_leave new.disk) → IsSynced seen may_leave new
settled_again seen may_leave new file end bytes before c r d at size sum shown only =
    let P : List ℕ → Type 0 = λ f. Only f (may_leave new.disk) in
    record {
      size = size ∙ sym d.size ∙ ap length (sym shown);
      whole = ap (λ f. length_after first_sum (take new.end f)) shown ∙ ap (λ n. length_after first_sum (take n c)) at ∙ d.whole ∙ sym at;
      last = sum ∙ d.last ∙ sym (ap (λ f. last_sum_after first_sum (take new.end f)) shown ∙ ap (λ n. last_sum_after first_sum (take n c)) at);
      zeros = λ i le. ap (λ f. get_or f i 0) shown ∙ d.zeros i (omega (arith, le, at));
      durable = subst P (sym shown) only;
    }

-- what a write of whole lines needs
pub may_write : {D : Type 0} (g : disk.Ghosts D) (file : LineFile D) (bytes given before sum : List ℕ) → AwaitsBatch g file → IsTrue (g.is_mixing file.disk) → given ≡ bytes → file.sum.digits ≡ before
    → AreWhole before bytes → sum ≡ last_sum_after before bytes → file.end + length bytes < file.length → MayWrite g file given sum
may_write g file bytes given before sum settled mixing is same whole last room = record {
  settled = settled;
  mixing = mixing;
  whole = ap (length_after file.sum.digits) is ∙ ap (λ s. length_after s bytes) same ∙ whole ∙ sym (ap length is);
  last = last ∙ sym (ap (last_sum_after file.sum.digits) is ∙ ap (λ s. last_sum_after s bytes) same);
  room = omega (arith, room, ap length is);
}
