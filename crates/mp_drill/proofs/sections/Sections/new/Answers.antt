use Rattle.std.proofs.Common.{◌≡◌, ◌++◌, List, [], ◌∷◌, length, true, false, refl, ap, append-nil, append_assoc, subst, sym, ◌∙◌}
use Rattle.std.specs.Prelude.{if◌then◌else◌}
use Rattle.mp_names.specs.Sets.{is_met, with_met}
use Rattle.mp_drill.specs.declared.schedule.Section.{Section}
use Rattle.mp_drill.specs.Sections.{events_of}
use Rattle.mp_drill.proofs.FirstSections.{first_kept, numbers_of, second_dropped}
use Rattle.mp_drill.proofs.sections.Sections.new.Goals as goal

none_left : (ss : List Section) → length ss ≡ 0 → ss ≡ []
none_left [] e = refl
none_left (s ∷ ss) e = absurd cc

pub loop-section-init : goal.loop-section-init
loop-section-init c = record {
  names = c.new-names.ensures ∙ sym (ap numbers_of c.new-kept.ensures);
  same = λ name. ap (λ ss. events_of ss name) ((λ i. c.new-kept.ensures i ++ c.into_iter-section-iterator.ensures.into_iter_gives.0 i) ∙ c.into_vec-section-items.ensures);
}

pub loop-section-preserved-then-branch : goal.loop-section-preserved-then-branch
loop-section-preserved-then-branch c =
    let s = c.in-Some.section in
    let names = c.loop-section.names in
    let kept = c.loop-section.kept in
    let rest = c.next.new.self.rest.items in
    let is : is_met names s.goal.0 ≡ true = sym c.in_ok-meet.ensures.known ∙ c.if-branch.true in
    let held : is_met (numbers_of kept) s.goal.0 ≡ true = subst (λ ns. is_met ns s.goal.0 ≡ true) c.loop-section.invariant.names is in
    record {
      names = c.in_ok-meet.ensures.met ∙ ap (λ b. if b then names else names ++ s.goal.0 ∷ []) is ∙ c.loop-section.invariant.names;
      same = λ name. second_dropped kept rest s held name ∙ ap (λ ss. events_of (kept ++ ss) name) (sym c.in-Some.ensures.steps.0) ∙ c.loop-section.invariant.same name;
    }

pub loop-section-preserved : goal.loop-section-preserved
loop-section-preserved c =
    let s = c.in-Some.section in
    let names = c.loop-section.names in
    let kept = c.loop-section.kept in
    let rest = c.next.new.self.rest.items in
    let is : is_met names s.goal.0 ≡ false = sym c.in_ok-meet.ensures.known ∙ c.if-branch.false in
    let new : is_met (numbers_of kept) s.goal.0 ≡ false = subst (λ ns. is_met ns s.goal.0 ≡ false) c.loop-section.invariant.names is in
    record {
      names = c.in_ok-meet.ensures.met ∙ ap (λ ns. with_met ns s.goal.0) c.loop-section.invariant.names ∙ first_kept kept s new ∙ sym (ap numbers_of c.in_default.ensures.ok);
      same = λ name.
          ap (λ ss. events_of ss name) (ap (λ ss. ss ++ rest) c.in_default.ensures.ok ∙ append_assoc kept (s ∷ []) rest ∙ ap (λ ss. kept ++ ss) (sym c.in-Some.ensures.steps.0))
          ∙ c.loop-section.invariant.same name;
    }

pub invariant_of-result : goal.invariant_of-result
invariant_of-result c = (c.loop-section.invariant.names, c.new.ensures)

pub returns : goal.returns
returns c name =
    let kept = c.loop-section.kept in
    let rest = c.loop-section.section-iterator.rest in
    let none = none_left rest.items (sym rest.ok.0 ∙ c.in-None.ensures.steps.0) in
    ap (λ ss. events_of ss name) (sym (append-nil kept) ∙ ap (λ ss. kept ++ ss) (sym none)) ∙ c.loop-section.invariant.same name
