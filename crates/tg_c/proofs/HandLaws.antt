-- What a hand was found to answer is what C gets.
use Rattle.std.proofs.Common.{◌≡◌, Result, Some}
use Rattle.tg_rights.specs.RightSet.{RightSet}
use Rattle.tg_store.specs.declared.handing.Handed.{Handed}
use Rattle.tg_c.specs.declared.forms.HandIn.{HandIn}
use Rattle.tg_c.specs.declared.place.StorePlace.{StorePlace}
use Rattle.tg_c.specs.declared.refusal.CallRefusal.{CallRefusal}
use Rattle.tg_c.specs.Forms.{label_at}
use Rattle.tg_c.specs.Handing.{HandsOfForm, HandsRights, IsHandAnswered, hand_of}
use Rattle.tg_c.specs.Statuses.{of_apply}
use Rattle.tg_c.proofs.CallLaws.{hears_at}

pub hand_told : (form : HandIn) (old new : StorePlace) (label : RightSet) (result : Result Handed CallRefusal) (tells : Result Handed CallRefusal → Type 0)
    → label_at form.rights ≡ Some label → HandsRights old new (hand_of form label) (λ told. result ≡ told) → tells result → HandsOfForm old new form tells
hand_told form old new label result tells is call told = record {
  asked = λ asked same. hears_at of_apply (λ l. IsHandAnswered (hand_of form l)) (label_at form.rights) label asked old new result tells is same call told;
  bad_rights = λ none. absurd (cc (none, is));
}
