use Rattle.std.proofs.Common.{rules, ◌<◌, ◌^◌, ◌++◌, ◌≡◌, refl, subst, ℕ}
use Rattle.rkyv_btree_typed.proofs.Headers.{header_named, named_header, no_other, other_unheaded, unversioned}
use Rattle.rkyv_btree_typed.specs.TypeHeader.{versioned}
use Rattle.rkyv_btree_typed.proofs.header.type_name_of.Goals as goal

pub returns-in_default-clause-accepts : goal.returns-in_default-clause-accepts
returns-in_default-clause-accepts c = (λ no. cc no, λ h. absurd (unversioned c.args.bytes.now c.in_default.ensures.none h))

pub returns-in_default-clause-refuses : goal.returns-in_default-clause-refuses
returns-in_default-clause-refuses c = (unversioned c.args.bytes.now c.in_default.ensures.none, λ version h. c.in_default.ensures.none version h.2.0 h.2.1)

pub returns-then-version-ne-VERSION-clause-accepts : goal.returns-then-version-ne-VERSION-clause-accepts
returns-then-version-ne-VERSION-clause-accepts c =
    let small : c.in-Some.version < 2 ^ 16 = search rules in
    (λ no. cc no, λ h. absurd (other_unheaded c.args.bytes.now c.in-Some.version (small, c.if-version-ne-VERSION.true, (c.in-Some.rest.now, c.in-Some.ensures.some)) h))

pub returns-in-Some-name_of-clause-name : goal.returns-in-Some-name_of-clause-name
returns-in-Some-name_of-clause-name c =
    let first : c.args.bytes.now ≡ versioned 1 ++ c.in-Some.rest.now = subst (λ (v : ℕ). c.args.bytes.now ≡ versioned v ++ c.in-Some.rest.now) c.if-version-ne-VERSION.false c.in-Some.ensures.some in
    named_header c.in-Some-name_of.name.now c.in-Some.rest.now c.args.bytes.now first c.in-Some-name_of.ensures.some

pub returns-in-Some-name_of-clause-accepts : goal.returns-in-Some-name_of-clause-accepts
returns-in-Some-name_of-clause-accepts c =
    let first : c.args.bytes.now ≡ versioned 1 ++ c.in-Some.rest.now = subst (λ (v : ℕ). c.args.bytes.now ≡ versioned v ++ c.in-Some.rest.now) c.if-version-ne-VERSION.false c.in-Some.ensures.some in
    (λ yes. (c.in-Some-name_of.name.now, named_header c.in-Some-name_of.name.now c.in-Some.rest.now c.args.bytes.now first c.in-Some-name_of.ensures.some), λ h. refl)

pub returns-in-None-clause-accepts : goal.returns-in-None-clause-accepts
returns-in-None-clause-accepts c =
    let first : c.args.bytes.now ≡ versioned 1 ++ c.in-Some.rest.now = subst (λ (v : ℕ). c.args.bytes.now ≡ versioned v ++ c.in-Some.rest.now) c.if-version-ne-VERSION.false c.in-Some.ensures.some in
    (λ no. cc no, λ h. absurd (c.in-None.ensures.none h.0 (header_named h.0 c.in-Some.rest.now c.args.bytes.now first h.1)))

pub returns-in-None-clause-refuses : goal.returns-in-None-clause-refuses
returns-in-None-clause-refuses c =
    let first : c.args.bytes.now ≡ versioned 1 ++ c.in-Some.rest.now = subst (λ (v : ℕ). c.args.bytes.now ≡ versioned v ++ c.in-Some.rest.now) c.if-version-ne-VERSION.false c.in-Some.ensures.some in
    (λ h. c.in-None.ensures.none h.0 (header_named h.0 c.in-Some.rest.now c.args.bytes.now first h.1), no_other c.in-Some.rest.now c.args.bytes.now first)
