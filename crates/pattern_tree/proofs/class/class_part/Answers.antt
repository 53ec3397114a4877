use Rattle.std.proofs.Common.{rules, ◌≡◌, ◌∷◌, [], ◌++◌, map, true, ap, sym, ◌∙◌, subst, arith, inl, inr}
use denote.Text.{Utf8}
use denote.Shadow.{shadow}
use Rattle.pattern_model.specs.Text.{is_at}
use Rattle.std.specs.Str.{chars}
use Rattle.pattern_model.specs.Tree.{Item}
use Rattle.pattern_model.specs.Classes.{item_of_atom}
use Rattle.pattern_tree.specs.Nodes.{item_of, form_item, atom_of}
use Rattle.pattern_tree.proofs.ClassLemmas.{no_atom, with_hyphens, alone, no_end, no_range, ranged, three}
use Rattle.pattern_model.specs.Classes.{class_atom}
use Rattle.pattern_model.proofs.ItemLaws.{reads_hyphen}
use Rattle.pattern_tree.proofs.ItemLemmas.{a_range, hyphens_at, item_between, item_then, last_item, three_more}
use Rattle.pattern_tree.proofs.class.class_part.Goals as goal

pub returns-in_default-clause-none : goal.returns-in_default-clause-none
returns-in_default-clause-none c = no_atom c.args.wide (chars c.args.x.now) c.in_default.ensures.value

pub returns-then-has_hyphens-clause-some : goal.returns-then-has_hyphens-clause-some
returns-then-has_hyphens-clause-some c =
    let a = atom_of c.in-Some.atom in (
      item_of_atom a ∷ Item.one 45 ∷ Item.one 45 ∷ [],
      with_hyphens c.args.wide (chars c.args.x.now) a (chars c.in-Some.after.now) (chars c.rest-hyphen.result.now)
          (chars c.rest-end.result.now) c.in-Some.ensures.value (sym c.if-has_hyphens.ensures) c.rest-hyphen.ensures.value
          c.rest-end.ensures.value,
      three _ _ _ _ (form_item c.form_of.result) (item_of_atom a) c.in_ok-push.ensures.forms c.in_ok-push-2.ensures.forms c.in_ok-push-3.ensures.forms
          c.form_of.ensures,
    )

pub returns-then-not-makes_range-clause-some : goal.returns-then-not-makes_range-clause-some
returns-then-not-makes_range-clause-some c =
    let a = atom_of c.in-Some.atom in (
      item_of_atom a ∷ [],
      alone c.args.wide (chars c.args.x.now) a (chars c.in-Some.after.now) c.in-Some.ensures.value (sym c.if-has_hyphens.ensures)
          (sym c.if-not-makes_range.ensures),
      c.in_ok-push-4.ensures.forms ∙ ap (λ z. map item_of c.args.items.now.items ++ (z ∷ [])) c.form_of-then-not-makes_range.ensures,
    )

pub returns-in_default-class_atom-clause-none : goal.returns-in_default-class_atom-clause-none
returns-in_default-class_atom-clause-none c =
    no_end c.args.wide (chars c.args.x.now) (atom_of c.in-Some.atom) (chars c.in-Some.after.now) (chars c.rest.result.now)
    c.in-Some.ensures.value (sym c.if-has_hyphens.ensures) (sym c.if-not-makes_range.ensures) c.rest.ensures.value
    c.in_default-class_atom.ensures.value

pub returns-in-None-clause-none : goal.returns-in-None-clause-none
returns-in-None-clause-none c =
    no_range c.args.wide (chars c.args.x.now) (atom_of c.in-Some.atom) (atom_of c.in-Some-class_atom.last) (chars c.in-Some.after.now)
    (chars c.rest.result.now) (chars c.in-Some-class_atom.end.now) c.in-Some.ensures.value (sym c.if-has_hyphens.ensures)
    (sym c.if-not-makes_range.ensures) c.rest.ensures.value c.in-Some-class_atom.ensures.value
    c.in-None.ensures

pub returns-in_ok-push-in-Some-range_of-clause-some : goal.returns-in_ok-push-in-Some-range_of-clause-some
returns-in_ok-push-in-Some-range_of-clause-some c = (
  form_item c.in-Some-range_of.form ∷ [],
  ranged c.args.wide (chars c.args.x.now) (atom_of c.in-Some.atom) (atom_of c.in-Some-class_atom.last) (form_item c.in-Some-range_of.form)
      (chars c.in-Some.after.now) (chars c.rest.result.now) (chars c.in-Some-class_atom.end.now) c.in-Some.ensures.value
      (sym c.if-has_hyphens.ensures) (sym c.if-not-makes_range.ensures) c.rest.ensures.value c.in-Some-class_atom.ensures.value
      c.in-Some-range_of.ensures,
  c.in_ok-push-in-Some-range_of.ensures.forms,
)

pub returns-then-has_hyphens-clause-places : goal.returns-then-has_hyphens-clause-places
returns-then-has_hyphens-clause-places c =
    let total = c.args.total in
    let x = c.args.x.now in
    let y = c.in-Some.after.now in
    let hyphen = c.rest-hyphen.result.now in
    let end = c.rest-end.result.now in
    let a = atom_of c.in-Some.atom in
    let two = hyphens_at c.args.wide a (chars y) (sym c.if-has_hyphens.ensures) in
    let second : is_at 45 (chars hyphen) ≡ true = subst (λ z. is_at 45 z ≡ true) (sym c.rest-hyphen.ensures.value) two.1 in
    let ux : shadow (Utf8 x) = search rules in
    let uy : shadow (Utf8 y) = search rules in
    let uh : shadow (Utf8 hyphen) = search rules in
    let ue : shadow (Utf8 end) = search rules in
    let l = c.in-Some.ensures.len in
    let m = c.rest-hyphen.ensures.len in
    let n = c.rest-end.ensures.len in
    let r = c.requires in (
      _,
      three_more _ _ _ _ _ _ _ c.in_ok-push.ensures.places c.in_ok-push-2.ensures.places c.in_ok-push-3.ensures.places,
      item_then total x y end (form_item c.form_of.result)
          (item_between total (Item.one 45) y hyphen ∷ item_between total (Item.one 45) hyphen end ∷ []) ux uy r (omega (arith, l))
          (inl (record { atom = a; read = c.in-Some.ensures.value; is = sym c.form_of.ensures }))
          (item_then total y hyphen end (Item.one 45) (item_between total (Item.one 45) hyphen end ∷ []) uy uh (omega (arith, l, r)) m
          (reads_hyphen (chars y) (chars hyphen) two.0 c.rest-hyphen.ensures.value)
          (last_item total hyphen end (Item.one 45) uh ue (omega (arith, l, m, r)) n
          (reads_hyphen (chars hyphen) (chars end) second c.rest-end.ensures.value))),
    )

pub returns-then-not-makes_range-clause-places : goal.returns-then-not-makes_range-clause-places
returns-then-not-makes_range-clause-places c =
    let x = c.args.x.now in
    let y = c.in-Some.after.now in
    let ux : shadow (Utf8 x) = search rules in
    let uy : shadow (Utf8 y) = search rules in
    let l = c.in-Some.ensures.len in (
      _,
      c.in_ok-push-4.ensures.places,
      last_item c.args.total x y (form_item c.form_of-then-not-makes_range.result) ux uy c.requires (omega (arith, l))
          (inl (record {
            atom = atom_of c.in-Some.atom;
            read = c.in-Some.ensures.value;
            is = sym c.form_of-then-not-makes_range.ensures;
          })),
    )

pub returns-in_ok-push-in-Some-range_of-clause-places : goal.returns-in_ok-push-in-Some-range_of-clause-places
returns-in_ok-push-in-Some-range_of-clause-places c =
    let x = c.args.x.now in
    let end = c.in-Some-class_atom.end.now in
    let ux : shadow (Utf8 x) = search rules in
    let ue : shadow (Utf8 end) = search rules in
    let l = c.in-Some.ensures.len in
    let m = c.in-Some-class_atom.ensures.len in
    let n = c.rest.ensures.len in (
      _,
      c.in_ok-push-in-Some-range_of.ensures.places,
      last_item c.args.total x end (form_item c.in-Some-range_of.form) ux ue c.requires (omega (arith, l, m, n))
          (inr (record {
            first = atom_of c.in-Some.atom;
            last = atom_of c.in-Some-class_atom.last;
            rest = chars c.in-Some.after.now;
            begins = c.in-Some.ensures.value;
            hyphen = a_range (chars c.in-Some.after.now) (sym c.if-not-makes_range.ensures);
            ends = ap class_atom (sym c.rest.ensures.value) ∙ c.in-Some-class_atom.ensures.value;
            is = c.in-Some-range_of.ensures;
          })),
    )
