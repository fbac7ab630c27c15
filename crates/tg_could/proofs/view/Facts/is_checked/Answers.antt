use Rattle.std.proofs.Common.{◌∙◌, ◌<◌, subst, ℕ, List}
use Rattle.std.specs.List.{All, Contains}
use Rattle.std.proofs.lemmas.Bool.{false≢true}
use Rattle.tg_model.specs.declared.edge.Edge.{Edge}
use Rattle.tg_could.specs.View.{IsListed, IsOfOne, Stands}
use Rattle.tg_could.proofs.view.Facts.is_checked.Goals as goal

pub returns : goal.returns
returns c t =
    let f = c.args.self.now in
    let p = c.args.scene.now.picture.now in
    let same = c.pairs_match.ensures c.if-not-pairs_match.false in
    record {
      actors =
          subst (λ (l : List ℕ). All (λ v. ¬ (Contains c.args.scene.now.silent.now v × (v < p.made)) → IsListed l v) p.subjects) c.as_slice-actors.ensures.value
          (c.are_listed.ensures c.if-not-are_listed.false);
      single =
          subst (λ (l : List ℕ). All (IsOfOne f.names f.islands) l) c.as_slice-actors.ensures.value
          (c.are_single.ensures c.if-not-are_single.false);
      edges = subst (λ (es : List Edge). All (Stands f.names f.islands f.incoming) es) c.edges.ensures (c.have_all.ensures t);
      full = c.is_full_as.ensures c.if-not-is_full_as.false;
      made = same.0 ∙ c.made.ensures;
      limit = same.1 ∙ c.limit.ensures;
    }

pub returns-then-not-pairs_match : goal.returns-then-not-pairs_match
returns-then-not-pairs_match c t = absurd (false≢true t)

pub returns-then-not-is_full_as : goal.returns-then-not-is_full_as
returns-then-not-is_full_as c t = absurd (false≢true t)

pub returns-then-not-are_listed : goal.returns-then-not-are_listed
returns-then-not-are_listed c t = absurd (false≢true t)

pub returns-then-not-are_single : goal.returns-then-not-are_single
returns-then-not-are_single c t = absurd (false≢true t)
