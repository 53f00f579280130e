use Rattle.std.proofs.Common.{◌≡◌, ◌∙◌, true, false, sym, ap, codes, drop, length, arith, map}
use Rattle.std.proofs.lemmas.Bool.{eqb-true, eqb-false, and_left, and_right}
use Rattle.std.specs.List.{list_all}
use Rattle.std.specs.Str.{bytes_eq}
use Rattle.sml_projects.specs.ProjectFiles.{LineGives, words_of, has_repeats, is_file_name, is_unit_name, lists}
use Rattle.sml_projects.proofs.Listings.{word_at, bytes_in, rest_words, line_without_words, line_of_remark, line_of_few_words, line_of_bad_words, line_too_late, line_of_repeats, line_of_good_words, differs, agrees, name_utf8, file_utf8}
use Rattle.sml_projects.proofs.project_file.read_line.Goals as goal
use Rattle.sml_projects.proofs.project_file.read_line.Goals.{then-is_empty-via-then-is_empty, then-is_empty-via-else-is_empty+then-is_remark}
use Rattle.sml_projects.proofs.project_file.read_line.Goals.{then-words-lt3-via-then-words-lt3, then-words-lt3-via-else-words-lt3+then-ne, then-words-lt3-via-else-words-lt3+else-ne+then-not-is_unit_name, then-words-lt3-via-else-words-lt3+else-ne+else-not-is_unit_name+then-not-is_file_name, then-words-lt3-via-else-words-lt3+else-ne+else-not-is_unit_name+else-not-is_file_name+then-listed-ge-MOST_UNITS}

pub returns-then-is_empty : goal.returns-then-is_empty
unfolding LineGives
returns-then-is_empty c =
    let line = c.args.line.now in
    let items = c.as_slice-words.result.now in
    let found : map (λ w. w.now) items ≡ words_of line = ap (λ l. map (λ w. w.now) l) c.as_slice-words.ensures.value ∙ c.in_ok-found.ensures in
    elim c.then-is_empty.branch [
      | then-is_empty-via-then-is_empty w ↦ line_without_words line items found (eqb-true (length items) 0 (sym c.is_empty.ensures ∙ w.if-is_empty.true))
      | then-is_empty-via-else-is_empty+then-is_remark w ↦
          line_of_remark line items found (eqb-false (length items) 0 (sym c.is_empty.ensures ∙ w.if-is_empty.false)) (sym w.is_remark.ensures ∙ w.if-is_remark.true)
    ]

pub returns-then-words-lt3 : goal.returns-then-words-lt3
unfolding LineGives
returns-then-words-lt3 c =
    let line = c.args.line.now in
    let items = c.as_slice-words.result.now in
    let found : map (λ w. w.now) items ≡ words_of line = ap (λ l. map (λ w. w.now) l) c.as_slice-words.ensures.value ∙ c.in_ok-found.ensures in
    let some = eqb-false (length items) 0 (sym c.is_empty.ensures ∙ c.if-is_empty.false) in
    let plain = sym c.is_remark.ensures ∙ c.if-is_remark.false in
    elim c.then-words-lt3.branch [
      | then-words-lt3-via-then-words-lt3 w ↦ λ us h. line_of_few_words line items found some plain w.if-words-lt3.true us
      | then-words-lt3-via-else-words-lt3+then-ne w ↦ λ us h.
          line_of_bad_words line items found plain w.if-words-lt3.false
          (and_left (bytes_eq (word_at items 0) (codes "unit")) _ (ap (λ t. bytes_eq (word_at items 0) t) (sym w.as_slice.ensures) ∙ differs _ _ w.ne.ensures w.if-ne.true)) us
      | then-words-lt3-via-else-words-lt3+else-ne+then-not-is_unit_name w ↦ λ us h.
          line_of_bad_words line items found plain w.if-words-lt3.false
          (and_right (bytes_eq (word_at items 0) (codes "unit")) _ (and_left (is_unit_name (word_at items 1)) _ (sym w.is_unit_name.ensures ∙ w.if-not-is_unit_name.true))) us
      | then-words-lt3-via-else-words-lt3+else-ne+else-not-is_unit_name+then-not-is_file_name w ↦ λ us h.
          line_of_bad_words line items found plain w.if-words-lt3.false
          (and_right (bytes_eq (word_at items 0) (codes "unit")) _ (and_right (is_unit_name (word_at items 1)) _ (and_left (is_file_name (word_at items 2)) _ (sym w.is_file_name.ensures ∙ w.if-not-is_file_name.true)))) us
      | then-words-lt3-via-else-words-lt3+else-ne+else-not-is_unit_name+else-not-is_file_name+then-listed-ge-MOST_UNITS w ↦ λ us h.
          line_too_late line items found plain w.if-words-lt3.false us (let late = w.if-listed-ge-MOST_UNITS.true in omega (arith, h, late))
    ]

pub returns-then-not-are_unit_names : goal.returns-then-not-are_unit_names
unfolding LineGives
returns-then-not-are_unit_names c us h =
    let line = c.args.line.now in
    let items = c.as_slice-words.result.now in
    let found : map (λ w. w.now) items ≡ words_of line = ap (λ l. map (λ w. w.now) l) c.as_slice-words.ensures.value ∙ c.in_ok-found.ensures in
    let plain = sym c.is_remark.ensures ∙ c.if-is_remark.false in
    let unnamed : list_all is_unit_name (bytes_in (drop 3 items)) ≡ false =
    ap (λ l. list_all is_unit_name (bytes_in l)) (sym (rest_words items)) ∙ sym c.are_unit_names.ensures ∙ c.if-not-are_unit_names.true in
    line_of_bad_words line items found plain c.if-words-lt3.false
    (and_right (bytes_eq (word_at items 0) (codes "unit")) _ (and_right (is_unit_name (word_at items 1)) _ (and_right (is_file_name (word_at items 2)) _ unnamed))) us

pub returns-then-branch : goal.returns-then-branch
unfolding LineGives
returns-then-branch c us h =
    let line = c.args.line.now in
    let items = c.as_slice-words.result.now in
    let found : map (λ w. w.now) items ≡ words_of line = ap (λ l. map (λ w. w.now) l) c.as_slice-words.ensures.value ∙ c.in_ok-found.ensures in
    let plain = sym c.is_remark.ensures ∙ c.if-is_remark.false in
    line_of_repeats line items found plain c.if-words-lt3.false (ap (λ l. has_repeats (bytes_in l)) (sym (rest_words items)) ∙ sym c.in_ok-has_repeats.ensures ∙ c.if-branch.true) us

pub texts-requires : goal.texts-requires
texts-requires c = sym c.are_unit_names.ensures ∙ c.if-not-are_unit_names.false

pub returns : goal.returns
unfolding LineGives
returns c =
    let line = c.args.line.now in
    let items = c.as_slice-words.result.now in
    let found : map (λ w. w.now) items ≡ words_of line = ap (λ l. map (λ w. w.now) l) c.as_slice-words.ensures.value ∙ c.in_ok-found.ensures in
    let plain = sym c.is_remark.ensures ∙ c.if-is_remark.false in
    let named = sym c.is_unit_name.ensures ∙ c.if-not-is_unit_name.false in
    let filed = sym c.is_file_name.ensures ∙ c.if-not-is_file_name.false in
    let wanted : list_all is_unit_name (bytes_in (drop 3 items)) ≡ true =
    ap (λ l. list_all is_unit_name (bytes_in l)) (sym (rest_words items)) ∙ sym c.are_unit_names.ensures ∙ c.if-not-are_unit_names.false in
    let name = c.in_ok-from_utf8_lossy.ensures.ok (name_utf8 (word_at items 1) named) in
    let file = c.in_ok-from_utf8_lossy-2.ensures.ok (file_utf8 (word_at items 2) filed) in
    let needs = c.in_ok-texts.ensures ∙ ap bytes_in (rest_words items) in (
      line_of_good_words line items found plain c.if-words-lt3.false (ap (λ t. bytes_eq (word_at items 0) t) (sym c.as_slice.ensures) ∙ agrees _ _ c.ne.ensures c.if-ne.false) named filed wanted
          ∙ (λ i. lists (record { name = sym name i; file = sym file i; needs = sym needs i })),
      c.if-listed-ge-MOST_UNITS.false,
      ap has_repeats c.in_ok-texts.ensures ∙ sym c.in_ok-has_repeats.ensures ∙ c.if-branch.false,
    )
