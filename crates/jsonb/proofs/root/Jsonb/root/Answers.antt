use Rattle.std.proofs.Common.{Option, subst, sym, arith}
use Rattle.json_model.specs.Tree.{Tree}
use Rattle.jsonb.specs.inner.Reads.{Reads}
use Rattle.jsonb.proofs.RootLaws.{answers, never_wants, lone_root, no_lone_root, container_root, scalar_root}
use Rattle.jsonb.proofs.root.Jsonb.root.Goals as goal

pub returns-in-None-clause-read : goal.returns-in-None-clause-read
returns-in-None-clause-read c =
    let b = c.args.container.now in
    let r = c.root_container.result in
    answers b (λ i. omega (arith, c.type_inv.container i)) r
    (subst (λ (t : Option Tree). Reads t r) (sym (no_lone_root b c.in-None.ensures)) c.root_container.ensures.read)

pub returns-in-None-clause-free : goal.returns-in-None-clause-free
returns-in-None-clause-free c =
    let b = c.args.container.now in
    let r = c.root_container.result in
    never_wants b r (subst (λ (t : Option Tree). Reads t r) (sym (no_lone_root b c.in-None.ensures)) c.root_container.ensures.read)

pub returns-in-None-clause-seat : goal.returns-in-None-clause-seat
returns-in-None-clause-seat c =
    container_root c.args.container.now (λ i. omega (arith, c.type_inv.container i)) c.root_container.result c.root_container.ensures.read
    c.root_container.ensures.seat

pub returns-in-Some-clause-read : goal.returns-in-Some-clause-read
returns-in-Some-clause-read c =
    let b = c.args.container.now in
    let r = c.root_scalar.result in
    answers b (λ i. omega (arith, c.type_inv.container i)) r
    (subst (λ (t : Option Tree). Reads t r) (sym (lone_root b c.in-Some.item c.in-Some.ensures)) c.root_scalar.ensures.read)

pub returns-in-Some-clause-free : goal.returns-in-Some-clause-free
returns-in-Some-clause-free c =
    let b = c.args.container.now in
    let r = c.root_scalar.result in
    never_wants b r (subst (λ (t : Option Tree). Reads t r) (sym (lone_root b c.in-Some.item c.in-Some.ensures)) c.root_scalar.ensures.read)

pub returns-in-Some-clause-seat : goal.returns-in-Some-clause-seat
returns-in-Some-clause-seat c =
    scalar_root c.args.container.now c.in-Some.item (λ i. omega (arith, c.type_inv.container i)) c.in-Some.ensures c.root_scalar.result
    c.root_scalar.ensures.seat
