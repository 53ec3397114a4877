use Rattle.std.proofs.Common.{Some, length, map, string_bytes, subst, sym, ap, ◌∙◌, arith}
use Rattle.std.proofs.Math.ListN.{length-set}
use Rattle.json_model.specs.Keys.{rises}
use Rattle.json_model.specs.Parts.{lookup}
use Rattle.key_map.specs.declared.map.Member.{Member}
use Rattle.key_map.specs.Order.{StandsAt, GoesAt}
use Rattle.key_map.specs.Pairs.{key_of, pair_of}
use Rattle.key_map.proofs.Members.{lookup_stands, lookup_goes, rises_inserted, lookup_inserted, rises_replaced, lookup_put}
use Rattle.key_map.proofs.map.put.Given as given
use Rattle.key_map.proofs.map.put.Goals as goal

stands : (g : given.Over) (c : goal.After-drop-key g) → StandsAt c.args.members.now.items (string_bytes c.args.key) c.in-Ok.place
stands g c = subst (λ k. StandsAt c.args.members.now.items k c.in-Ok.place) c.deref-2.ensures
    (subst (λ ms. StandsAt ms c.deref-2.result.now c.in-Ok.place) c.deref.ensures.value (c.in-Ok.ensures))

goes : (g : given.Over) (c : goal.In-Ok-insert g) → GoesAt c.args.members.now.items (string_bytes c.args.key) c.in-Err.place
goes g c = subst (λ k. GoesAt c.args.members.now.items k c.in-Err.place) c.deref-2.ensures
    (subst (λ ms. GoesAt ms c.deref-2.result.now c.in-Err.place) c.deref.ensures.value (c.in-Err.ensures))

pub returns-in-Ok-clause-rise : goal.returns-in-Ok-clause-rise
returns-in-Ok-clause-rise g c =
    let d : Member g.row.V.Denot = record { key = c.args.key; value = c.args.value } in
    ap (λ l. rises (map key_of l)) (c.replace_value.ensures.new d) ∙ rises_replaced c.args.members.now.items c.in-Ok.place d c.args.value c.requires

pub returns-in-Ok-clause-old : goal.returns-in-Ok-clause-old
returns-in-Ok-clause-old g c =
    let d : Member g.row.V.Denot = record { key = c.args.key; value = c.args.value } in
    ap (λ v. Some v) (c.replace_value.ensures.old d)
    ∙ sym (lookup_stands c.args.members.now.items (string_bytes c.args.key) c.in-Ok.place d c.requires (stands g c))

pub returns-in-Ok-clause-new : goal.returns-in-Ok-clause-new
returns-in-Ok-clause-new g c = λ k.
    let d : Member g.row.V.Denot = record { key = c.args.key; value = c.args.value } in
    ap (λ l. lookup k (map pair_of l)) (c.replace_value.ensures.new d)
    ∙ lookup_put c.args.members.now.items (string_bytes c.args.key) c.in-Ok.place d c.requires (stands g c) c.args.value k

pub returns-in-Ok-clause-len : goal.returns-in-Ok-clause-len
returns-in-Ok-clause-len g c =
    let d : Member g.row.V.Denot = record { key = c.args.key; value = c.args.value } in
    let e = simp length-set at (ap length (c.replace_value.ensures.new d)) in
    omega arith

pub returns-in-Ok-insert-clause-rise : goal.returns-in-Ok-insert-clause-rise
returns-in-Ok-insert-clause-rise g c =
    let m : Member g.row.V.Denot = record { key = c.args.key; value = c.args.value } in
    ap (λ l. rises (map key_of l)) c.in-Ok-insert.ensures.items ∙ rises_inserted c.args.members.now.items m c.in-Err.place c.requires (goes g c)

pub returns-in-Ok-insert-clause-old : goal.returns-in-Ok-insert-clause-old
returns-in-Ok-insert-clause-old g c = sym (lookup_goes c.args.members.now.items (string_bytes c.args.key) c.in-Err.place (goes g c))

pub returns-in-Ok-insert-clause-new : goal.returns-in-Ok-insert-clause-new
returns-in-Ok-insert-clause-new g c = λ k.
    let m : Member g.row.V.Denot = record { key = c.args.key; value = c.args.value } in
    ap (λ l. lookup k (map pair_of l)) c.in-Ok-insert.ensures.items ∙ lookup_inserted c.args.members.now.items m c.in-Err.place (goes g c) k

pub returns-in-Err-insert-clause-only_new : goal.returns-in-Err-insert-clause-only_new
returns-in-Err-insert-clause-only_new g c =
    lookup_goes c.args.members.now.items (string_bytes c.args.key) c.in-Err.place
    (subst (λ k. GoesAt c.args.members.now.items k c.in-Err.place) c.deref-2.ensures
    (subst (λ ms. GoesAt ms c.deref-2.result.now c.in-Err.place) c.deref.ensures.value (c.in-Err.ensures)))
