use Rattle.std.proofs.Common.{drop, sym, ap, ◌∙◌, arith}
use Rattle.sml_lex.specs.Bytes.{starts_with}
use Rattle.sml_lex.specs.Strings.{break_of}
use Rattle.sml_lex.specs.CodeStrings.{item_at, element}
use Rattle.sml_lex.proofs.StringScans.{count_start, found, count_on, scan_smaller, scan_closed, scan_broken}
use Rattle.sml_lex.proofs.strings.scan.Goals as goal

pub items-init : goal.items-init
items-init c = count_start c.args.text.now c.requires

pub returns-then-starts_with : goal.returns-then-starts_with
returns-then-starts_with c =
    let inv = c.items.invariant in
    scan_closed c.args.text.now c.items.bytes c.items.characters c.items.first inv.value (ap (starts_with 34) (sym c.after-rest.ensures) ∙ sym c.starts_with.ensures ∙ c.if-starts_with.true) inv.scanned inv.count inv.first_is

pub overflow_add-bytes : goal.overflow_add-bytes
overflow_add-bytes c =
    let inv = c.items.invariant in
    let f = found (drop c.items.bytes c.args.text.now) c.in-Some.found (ap (λ t. element (item_at t)) (sym c.after-rest.ensures) ∙ sym c.item.ensures ∙ c.in-Some.is) in
    let more = (scan_smaller c.args.text.now c.items.bytes inv.value c.in-Some.found f inv.scanned).1 in
    record { fits = omega (arith, more) }

pub items-smaller : goal.items-smaller
items-smaller c =
    let inv = c.items.invariant in
    let f = found (drop c.items.bytes c.args.text.now) c.in-Some.found (ap (λ t. element (item_at t)) (sym c.after-rest.ensures) ∙ sym c.item.ensures ∙ c.in-Some.is) in
    let s = scan_smaller c.args.text.now c.items.bytes inv.value c.in-Some.found f inv.scanned in
    let some = s.0 in
    let more = s.1 in
    omega (arith, some, more)

pub items-preserved : goal.items-preserved
items-preserved c =
    let f = found (drop c.items.bytes c.args.text.now) c.in-Some.found (ap (λ t. element (item_at t)) (sym c.after-rest.ensures) ∙ sym c.item.ensures ∙ c.in-Some.is) in
    count_on c.args.text.now c.items.bytes c.items.characters c.count-characters.result c.items.first c.earlier-first.result c.in-Some.found f c.items.invariant c.count-characters.ensures c.earlier-first.ensures

pub returns-in-None : goal.returns-in-None
returns-in-None c = scan_broken c.args.text.now c.items.bytes c.items.invariant.value _ (ap (starts_with 34) (sym c.after-rest.ensures) ∙ sym c.starts_with.ensures ∙ c.if-starts_with.false) (ap (λ t. element (item_at t)) (sym c.after-rest.ensures) ∙ sym c.item.ensures ∙ c.in-None.is) (c.break_at.ensures ∙ ap (λ t. break_of t c.items.bytes) c.after-rest.ensures) c.items.invariant.scanned
