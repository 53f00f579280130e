use Rattle.std.proofs.Common.{◌≡◌, ℕ, ◌<◌, ◌∙◌, false, List, [], ◌∷◌, ◌++◌, ap, sym, subst, length, map, Vec, String, if◌then◌else◌, arith}
use Rattle.std.specs.Global.{Global}
use Rattle.std.specs.List.{list_any}
use Rattle.std.specs.String.{string_bytes, string_eq}
use Rattle.std.proofs.lemmas.List.{length-map, map-append}
use Rattle.sml_projects.specs.ProjectFiles.{LineGives, lines_of}
use Rattle.sml_projects.proofs.Listings.{word_at, same_word, same_length, agrees, differs}
use Rattle.sml_projects.proofs.Manifests.{read_start, read_passed, read_listed, read_whole, read_to_bad, read_to_repeated, too_long, no_memory, few_lines, any_text}
use Rattle.sml_projects.proofs.project_file.manifest.Goals as goal
use Rattle.sml_projects.proofs.project_file.manifest.Goals.{in-PassedOver, in-Listed+in_ok-insert-in-Listed+else-not-branch+in_ok-push-in-Listed+in_ok-push-in-Listed-2+in_ok-push-in-Listed-3}

pub returns-then-text-gt-MOST_BYTES : goal.returns-then-text-gt-MOST_BYTES
returns-then-text-gt-MOST_BYTES c = too_long c.args.text.now _ c.if-text-gt-MOST_BYTES.true c.fault.ensures

pub returns-in_err-lines : goal.returns-in_err-lines
returns-in_err-lines c = no_memory c.args.text.now _ c.from_residual.ensures.1

pub returns-in_err-read_line : goal.returns-in_err-read_line
returns-in_err-read_line c = no_memory c.args.text.now _ c.from_residual-in_err-read_line.ensures.1

pub returns-in_err-insert-in-Listed : goal.returns-in_err-insert-in-Listed
returns-in_err-insert-in-Listed c = no_memory c.args.text.now _ c.from_residual-in_err-insert-in-Listed.ensures.1

pub returns-in_err-push-in-Listed : goal.returns-in_err-push-in-Listed
returns-in_err-push-in-Listed c = no_memory c.args.text.now _ c.from_residual-in_err-push-in-Listed.ensures.1

pub returns-in_err-push-in-Listed-2 : goal.returns-in_err-push-in-Listed-2
returns-in_err-push-in-Listed-2 c = no_memory c.args.text.now _ c.from_residual-in_err-push-in-Listed-2.ensures.1

pub returns-in_err-push-in-Listed-3 : goal.returns-in_err-push-in-Listed-3
returns-in_err-push-in-Listed-3 c = no_memory c.args.text.now _ c.from_residual-in_err-push-in-Listed-3.ensures.1

-- the columns' texts
abbrev texts_of : Vec (String Global) Global → List (List ℕ)
texts_of own = map string_bytes own.items

pub loop-index-init : goal.loop-index-init
loop-index-init c =
    read_start (lines_of c.args.text.now) _ _ _ _ (ap (map string_bytes) c.new-names.ensures.empty) (ap (map string_bytes) c.new-files.ensures.items) (ap (map texts_of) c.new-needs.ensures.items) c.new-numbers.ensures.items

pub overflow_cast-number : goal.overflow_cast-number
overflow_cast-number c =
    let text = c.args.text.now in
    let items = c.deref-line-items.result.now in
    let found : map (λ l. l.now) items ≡ lines_of text = ap (λ l. map (λ w. w.now) l) c.deref-line-items.ensures.value ∙ c.in_ok-lines.ensures in
    let same = same_length items (lines_of text) found in
    let few = few_lines text in
    omega (arith, same, few)

pub overflow_add-number : goal.overflow_add-number
overflow_add-number c =
    let text = c.args.text.now in
    let items = c.deref-line-items.result.now in
    let found : map (λ l. l.now) items ≡ lines_of text = ap (λ l. map (λ w. w.now) l) c.deref-line-items.ensures.value ∙ c.in_ok-lines.ensures in
    let same = same_length items (lines_of text) found in
    let few = few_lines text in
    omega (arith, same, few)

pub returns-in-Bad : goal.returns-in-Bad
unfolding LineGives
returns-in-Bad c =
    let text = c.args.text.now in
    let items = c.deref-line-items.result.now in
    let i = c.loop-index.index in
    let found : map (λ l. l.now) items ≡ lines_of text = ap (λ l. map (λ w. w.now) l) c.deref-line-items.ensures.value ∙ c.in_ok-lines.ensures in
    let within : i < length (lines_of text) = (let same = same_length items (lines_of text) found in let h = c.loop-index-test.true in omega (arith, same, h)) in
    let gives = subst (LineGives c.len.result (word_at items i)) c.in-Bad.is c.in_ok-read_line.ensures in
    let counted : length (map string_bytes c.loop-index.names.keys) ≡ c.len.result = length-map c.loop-index.names.keys string_bytes ∙ sym c.len.ensures.len in
    read_to_bad text i _ _ _ _ (word_at items i) _ (omega arith) within (same_word items (lines_of text) i found) (λ us h. gives us (h ∙ counted)) c.loop-index.invariant c.fault-in-Bad.ensures

pub returns-then-not-branch : goal.returns-then-not-branch
unfolding LineGives
returns-then-not-branch c =
    let text = c.args.text.now in
    let items = c.deref-line-items.result.now in
    let i = c.loop-index.index in
    let keys = c.loop-index.names.keys in
    let unit = c.in-Listed.unit in
    let found : map (λ l. l.now) items ≡ lines_of text = ap (λ l. map (λ w. w.now) l) c.deref-line-items.ensures.value ∙ c.in_ok-lines.ensures in
    let within : i < length (lines_of text) = (let same = same_length items (lines_of text) found in let h = c.loop-index-test.true in omega (arith, same, h)) in
    let gives = subst (LineGives c.len.result (word_at items i)) c.in-Listed.is c.in_ok-read_line.ensures in
    let few : length (map string_bytes keys) < 4096 = (let e = length-map keys string_bytes in let l = c.len.ensures.len in let g = gives.1 in omega (arith, e, l, g)) in
    read_to_repeated text i _ _ _ _ (word_at items i) _ (record { name = string_bytes unit.name; file = string_bytes unit.file; needs = map string_bytes unit.needs.items }) (omega arith) within
    (same_word items (lines_of text) i found) gives.0 few gives.2 (sym (any_text keys unit.name) ∙ agrees _ _ c.in_ok-insert-in-Listed.ensures.added c.if-not-branch.true) c.loop-index.invariant
    c.fault-then-not-branch.ensures

pub loop-index-preserved : goal.loop-index-preserved
unfolding LineGives
loop-index-preserved c =
    let text = c.args.text.now in
    let items = c.deref-line-items.result.now in
    let i = c.loop-index.index in
    let keys = c.loop-index.names.keys in
    let found : map (λ l. l.now) items ≡ lines_of text = ap (λ l. map (λ w. w.now) l) c.deref-line-items.ensures.value ∙ c.in_ok-lines.ensures in
    let within : i < length (lines_of text) = (let same = same_length items (lines_of text) found in let h = c.loop-index-test.true in omega (arith, same, h)) in
    let line = same_word items (lines_of text) i found in
    elim c.match-branch-3.branch [
      | in-PassedOver w ↦
          read_passed (lines_of text) i _ _ _ _ (word_at items i) _ _ _ _ (ap (λ s. map string_bytes s.keys) w.names-is) (ap (λ v. map string_bytes v.items) w.files-is) (ap (λ v. map texts_of v.items) w.needs-is)
          (ap (λ v. v.items) w.numbers-is) within line (subst (LineGives c.len.result (word_at items i)) w.in-PassedOver.is c.in_ok-read_line.ensures) c.loop-index.invariant
      | in-Listed+in_ok-insert-in-Listed+else-not-branch+in_ok-push-in-Listed+in_ok-push-in-Listed-2+in_ok-push-in-Listed-3 w ↦
          let unit = w.in-Listed.unit in
          let gives = subst (LineGives c.len.result (word_at items i)) w.in-Listed.is c.in_ok-read_line.ensures in
          let fresh : list_any (string_eq unit.name) keys ≡ false = differs _ _ w.in_ok-insert-in-Listed.ensures.added w.if-not-branch.false in
          let few : length (map string_bytes keys) < 4096 = (let e = length-map keys string_bytes in let l = c.len.ensures.len in let g = gives.1 in omega (arith, e, l, g)) in
          read_listed (lines_of text) i _ _ _ _ (word_at items i) _ _ _ _ (string_bytes unit.name) (string_bytes unit.file) (texts_of unit.needs)
          (ap (λ s. map string_bytes s.keys) w.names-is ∙ ap (map string_bytes) (w.in_ok-insert-in-Listed.ensures.keys ∙ ap (λ b. if b then keys else keys ++ unit.name ∷ []) fresh) ∙ map-append string_bytes keys (unit.name ∷ []))
          (ap (λ v. map string_bytes v.items) w.files-is ∙ ap (map string_bytes) w.in_ok-push-in-Listed.ensures.items ∙ map-append string_bytes c.loop-index.files.items (unit.file ∷ []))
          (ap (λ v. map texts_of v.items) w.needs-is ∙ ap (map texts_of) w.in_ok-push-in-Listed-2.ensures.items ∙ map-append texts_of c.loop-index.needs.items (unit.needs ∷ []))
          (ap (λ v. v.items) w.numbers-is ∙ w.in_ok-push-in-Listed-3.ensures.items) within line gives.0 few gives.2 (sym (any_text keys unit.name) ∙ fresh) c.loop-index.invariant
    ]

pub returns : goal.returns
returns c =
    let text = c.args.text.now in
    let items = c.deref-line-items.result.now in
    let found : map (λ l. l.now) items ≡ lines_of text = ap (λ l. map (λ w. w.now) l) c.deref-line-items.ensures.value ∙ c.in_ok-lines.ensures in
    read_whole text c.loop-index.index _ (omega arith) (let same = same_length items (lines_of text) found in let h = c.loop-index-test.false in omega (arith, same, h)) c.loop-index.invariant
