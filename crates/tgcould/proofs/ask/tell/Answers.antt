use Rattle.std.proofs.Common.{ℕ, subst, sym}
use Rattle.tgcould.specs.Told.{IsNever, NeverComes, named_in}
use Rattle.tgcould.proofs.ask.tell.Goals as goal

pub returns-in-Hold : goal.returns-in-Hold
returns-in-Hold c never =
    let p = c.args.scene.now.picture.now in
    let silent = c.args.scene.now.silent.now in
    let right = c.in-Hold.right in
    subst (NeverComes p silent) (sym c.in-Hold.is)
    (subst (λ (n : ℕ). IsNever p silent (named_in p c.in-Hold.x) right n) c.name_of-y.ensures
    (subst (λ (n : ℕ). IsNever p silent n right c.name_of-y.result) c.name_of-x.ensures (c.tell_hold.ensures.never never)))

pub returns-in-Who : goal.returns-in-Who
returns-in-Who c never =
    let p = c.args.scene.now.picture.now in
    let silent = c.args.scene.now.silent.now in
    subst (NeverComes p silent) (sym c.in-Who.is)
    (λ x. subst (λ (n : ℕ). IsNever p silent x c.in-Who.right n) c.name_of.ensures (c.tell_who.ensures never x))

pub returns-in-What : goal.returns-in-What
returns-in-What c never =
    let p = c.args.scene.now.picture.now in
    let silent = c.args.scene.now.silent.now in
    subst (NeverComes p silent) (sym c.in-What.is)
    (λ right y. subst (λ (n : ℕ). IsNever p silent n right y) c.name_of-in-What.ensures (c.tell_what.ensures never right y))
