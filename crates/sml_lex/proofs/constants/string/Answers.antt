use Rattle.std.proofs.Common.{◌+◌, drop, sym, ap, ◌∙◌, subst, arith}
use Rattle.sml_lex.specs.Bytes.{starts_with}
use Rattle.sml_lex.specs.CodeStrings.{item_at, element}
use Rattle.sml_lex.proofs.StringScans.{Scanned, scan_start, found, scan_on, scan_smaller}
use Rattle.sml_lex.proofs.ConstantValues.{string_whole, string_longer, string_broken}
use Rattle.sml_lex.proofs.constants.string.Goals as goal

pub items-init : goal.items-init
items-init c = subst (Scanned c.args.text.now 1) (sym c.new-value.ensures.items) (scan_start c.args.text.now (sym c.starts_with.ensures ∙ c.if-not-starts_with.false))

pub returns-then-bytes-text : goal.returns-then-bytes-text
returns-then-bytes-text c = string_whole c.args.text.now c.items.bytes c.items.value.items (ap (starts_with 34) (sym c.after-rest.ensures) ∙ sym c.starts_with-in-items.ensures ∙ c.if-starts_with.true) c.if-bytes-text.true c.items.invariant

pub returns-then-starts_with : goal.returns-then-starts_with
returns-then-starts_with c = string_longer c.args.text.now c.items.bytes c.items.value.items (ap (starts_with 34) (sym c.after-rest.ensures) ∙ sym c.starts_with-in-items.ensures ∙ c.if-starts_with.true) c.if-bytes-text.false c.items.invariant

pub overflow_add-bytes-in-Some : goal.overflow_add-bytes-in-Some
overflow_add-bytes-in-Some c =
    let f = found (drop c.items.bytes c.args.text.now) c.in-Some.found (ap (λ t. element (item_at t)) (sym c.after-rest.ensures) ∙ sym c.item.ensures ∙ c.in-Some.is) in
    let more = (scan_smaller c.args.text.now c.items.bytes c.items.value.items c.in-Some.found f c.items.invariant).1 in
    record { fits = omega (arith, more) }

pub items-smaller : goal.items-smaller
items-smaller c =
    let f = found (drop c.items.bytes c.args.text.now) c.in-Some.found (ap (λ t. element (item_at t)) (sym c.after-rest.ensures) ∙ sym c.item.ensures ∙ c.in-Some.is) in
    let s = scan_smaller c.args.text.now c.items.bytes c.items.value.items c.in-Some.found f c.items.invariant in
    let some = s.0 in
    let more = s.1 in
    omega (arith, some, more)

pub items-preserved : goal.items-preserved
items-preserved c =
    let f = found (drop c.items.bytes c.args.text.now) c.in-Some.found (ap (λ t. element (item_at t)) (sym c.after-rest.ensures) ∙ sym c.item.ensures ∙ c.in-Some.is) in
    subst (Scanned c.args.text.now (c.items.bytes + c.in-Some.found.bytes)) (sym c.in_ok-push_some-in-Some.ensures) (scan_on c.args.text.now c.items.bytes c.items.value.items c.in-Some.found f c.items.invariant)

pub returns-in-None : goal.returns-in-None
returns-in-None c = string_broken c.args.text.now c.items.bytes c.items.value.items (ap (starts_with 34) (sym c.after-rest.ensures) ∙ sym c.starts_with-in-items.ensures ∙ c.if-starts_with.false) (ap (λ t. element (item_at t)) (sym c.after-rest.ensures) ∙ sym c.item.ensures ∙ c.in-None.is) c.items.invariant
