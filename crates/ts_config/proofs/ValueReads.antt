-- The reading as a function is the grammar's.
use Rattle.std.proofs.Common.{◌≡◌, ◌≢◌, ℕ, zero, suc, ◌+◌, ◌<◌, List, [], ◌∷◌, ◌++◌, length, take, drop, true, false, cond, Option, Some, None, Result, Ok, Err, inl, inr, refl, ap, sym, ◌∙◌, subst, arith, append_assoc, append-nil, length-append, eqb-true, ◌↔◌}
use Rattle.std.specs.Prelude.{◌==◌, MatchBool}
use Rattle.std.specs.List.{prefix_len}
use Rattle.std.specs.Option.{option_map}
use Rattle.std.proofs.lemmas.Bool.Decides.{nat_tests}
use Rattle.ts_lists.proofs.Cases.{split}
use Rattle.ts_config.specs.declared.setup.ConfigKind.{ConfigKind}
use Rattle.ts_config.specs.declared.setup.ConfigKind.TheVariants as k
use Rattle.ts_config.specs.declared.setup.ConfigRefusal.{ConfigRefusal}
use Rattle.ts_config.specs.declared.setup.ConfigRefusal.TheVariants as c
use Rattle.ts_config.specs.declared.read.LineRefusal.{LineRefusal}
use Rattle.ts_config.specs.declared.read.LineRefusal.TheVariants as r
use Rattle.ts_config.specs.declared.setup.FilePlace.{FilePlace}
use Rattle.ts_config.specs.declared.setup.LineMeaning.{LineMeaning}
use Rattle.ts_config.specs.Lines.{config_lines}
use Rattle.ts_config.specs.Setup.{ConfigLines}
use Rattle.ts_config.specs.Words.{is_blank, is_end, EndsWord, HasNoWord, BeginsWithWord, IsWords}
use Rattle.ts_config.specs.Reading.{is_text, Means, MeansByWords, lines_in, with_line, has_room, file_in, files_behind, AreFew, AreFiles, AreRead, Breaks, IsFault, IsConfiguration, RefusesRightly}
use Rattle.ts_config.specs.Scanning.{AnswersAsRead, AreWords, MeansUnlessMemory}
use Rattle.ts_config.specs.Value.{Front, nothing, word, unclosed, is_plain_byte, is_quotable_byte, quoted, front_of_text, front_of, words_behind, words_below, words_in, meaning_of_words, meaning_of, Reading, Good, Bad, next_lines, read_lines, config_of, IsReading, IsConfigRefusal}
use Rattle.ts_config.proofs.Fronts.{never_closed, closed_within, closed_word, end-found, spelled-found, plain-found, no_words}
use Rattle.ts_config.proofs.LinesSoFar.{each_more, few_more, files_more, lines_in-more, no_lines_few}
use Rattle.ts_config.proofs.OneReading.{means_once, one_order, one_reading, read_or_fault, one_fault}
use Rattle.ts_config.proofs.Scan.{behind_quote, one_word, word_or_none}
use Rattle.ts_config.proofs.WordsSoFar.{rest_shorter}

-- the front is one of the line's
abbrev IsFront : List ℕ → Front → Type 0
IsFront line nothing = HasNoWord line
IsFront line (word w rest) = BeginsWithWord line w rest
IsFront line unclosed = (words : List (List ℕ)) → ¬ IsWords line words

unequal : (a b : ℕ) → (a == b) ≡ false → a ≢ b
unequal a b is same = grind (arith, nat_tests, is)

module _ (line bs : List ℕ) (text : 34 ∷ bs ≡ drop (prefix_len is_blank line) line) where
  abbrev between : List ℕ
  between = take (prefix_len is_quotable_byte bs) bs

  closed_begins : (q : ℕ) (rest : List ℕ) → q ∷ rest ≡ drop (prefix_len is_quotable_byte bs) bs
      → EndsWord rest → BeginsWithWord line (take (prefix_len is_quotable_byte bs) bs) rest
  closed_begins q rest cut ends =
      let w : List ℕ = take (prefix_len is_quotable_byte bs) bs in
      let found = closed_word bs (q ∷ rest) cut w refl q rest refl in
      spelled-found line (34 ∷ bs) text (34 ∷ w ++ 34 ∷ []) w rest (inr (found.0, refl)) ends
      (ap (λ xs. 34 ∷ xs) found.1 ∙ sym (behind_quote w rest))

  -- a word between quotes
  quoted_right : (behind : List ℕ) → behind ≡ drop (prefix_len is_quotable_byte bs) bs
      → IsFront line (quoted (take (prefix_len is_quotable_byte bs) bs) behind)
  quoted_right [] cut = no_words line (34 ∷ bs) text bs refl (never_closed bs [] cut refl)
  quoted_right (q ∷ []) cut = closed_begins q [] cut tt
  quoted_right (q ∷ b ∷ rest) cut =
      let w : List ℕ = take (prefix_len is_quotable_byte bs) bs in
      split (is_end b) (λ t. IsFront line (cond t (word w (b ∷ rest)) unclosed))
      (λ ends. closed_begins q (b ∷ rest) cut ends)
      (λ within. no_words line (34 ∷ bs) text bs refl
      (closed_within bs (q ∷ b ∷ rest) cut q (b ∷ rest) refl (λ ends. let wrong : false ≡ true =
      sym within ∙ ends in cc)))

front_right : (line text : List ℕ) → text ≡ drop (prefix_len is_blank line) line
    → IsFront line (front_of_text text)
front_right line [] is = end-found line [] is tt
front_right line (b ∷ bs) is =
    let between : Front =
    quoted (take (prefix_len is_quotable_byte bs) bs) (drop (prefix_len is_quotable_byte bs) bs) in
    let plain : Front =
    word (take (prefix_len is_plain_byte (b ∷ bs)) (b ∷ bs))
    (drop (prefix_len is_plain_byte (b ∷ bs)) (b ∷ bs)) in
    split (b == 35) (λ t. IsFront line (cond t nothing (cond (b == 34) between plain)))
    (λ comment. end-found line (b ∷ bs) is (eqb-true b 35 comment))
    (λ other. split (b == 34) (λ t. IsFront line (cond t between plain))
    (λ quote. quoted_right line bs (ap (λ x. x ∷ bs) (sym (eqb-true b 34 quote))
    ∙ is) (drop (prefix_len is_quotable_byte bs) bs) refl)
    (λ no_quote. plain-found line (b ∷ bs) is b bs (take (prefix_len is_plain_byte (b ∷ bs)) (b ∷ bs))
    (drop (prefix_len is_plain_byte (b ∷ bs)) (b ∷ bs)) refl
    (unequal b 34 no_quote) (unequal b 35 other) refl refl))

-- the words are the line's
words_right : (n : ℕ) (line : List ℕ) → length line < n → AreWords line (words_below n line)
words_right zero line short = absurd (omega arith)
words_right (suc n) line short =
    by_front (λ rest below. words_right n rest below) (front_of line)
    (front_right line (drop (prefix_len is_blank line) line) refl)
  where
    more : (w rest : List ℕ) → BeginsWithWord line w rest → (found : Option (List (List ℕ)))
        → AreWords rest found
        → AreWords line (option_map (λ ws. w ∷ ws) found)
    more w rest begins (Some ws) are = (rest, begins, are)
    more w rest begins None unfit = none
      where
        none : (words : List (List ℕ)) → ¬ IsWords line words
        none [] empty = word_or_none line w rest empty begins
        none (v ∷ vs) (behind, first, are) =
            let same = one_word line v behind w rest first begins in
            unfit vs (subst (λ r. IsWords r vs) same.1 are)

    by_front : ((rest : List ℕ) → length rest < n → AreWords rest (words_below n rest)) → (front : Front)
        → IsFront line front → AreWords line (words_behind front (words_below n))
    by_front shorter nothing is = is
    by_front shorter (word w rest) is =
        more w rest is (words_below n rest) (shorter rest (omega (arith, rest_shorter line w rest is)))
    by_front shorter unclosed is = is

-- a line means its value
meaning_right : (line : List ℕ) → Means line (meaning_of line)
meaning_right line =
    split (is_text line) (λ t. MatchBool t (MeansByWords line
    (cond t (meaning_of_words (words_in line)) (Err k.Text)))
    (cond t (meaning_of_words (words_in line)) (Err k.Text) ≡ Err k.Text))
    (λ text. by_words (words_in line) (words_right (suc (length line)) line (omega arith)))
    (λ other. refl)
  where
    by_words : (found : Option (List (List ℕ))) → AreWords line found
        → MeansByWords line (meaning_of_words found)
    by_words (Some words) are = inl (words, are, refl)
    by_words None unfit = inr (unfit, refl)

-- and so it is answered
pub meaning_value : (line : List ℕ) (answer : Result LineMeaning LineRefusal) → MeansUnlessMemory line answer
    → AnswersAsRead answer (meaning_of line)
meaning_value line (Ok e) means = means_once line (meaning_of line) (Ok e) (meaning_right line) means
meaning_value line (Err r.NoMemory) means = tt
meaning_value line (Err (r.Kind kind)) means =
    means_once line (meaning_of line) (Err kind) (meaning_right line) means

-- lines behind those that were read
abbrev AreSo : List (List ℕ) → Reading → Type 0
AreSo lines (Good ls places) =
    (es : List LineMeaning) × AreRead lines es × (ls ≡ lines_in es) × (places ≡ files_behind [] es)
AreSo lines (Bad n kind) = IsFault lines n kind

lines_right : (lines before : List (List ℕ)) (es : List LineMeaning) (n : ℕ) → AreRead before es
    → n ≡ length before
    → AreSo (before ++ lines) (read_lines lines n (lines_in es) (files_behind [] es))
lines_right [] before es n read is =
    (es, subst (λ ls. AreRead ls es) (sym (append-nil before)) read, refl, refl)
lines_right (line ∷ lines) before es n read is =
    by_meaning (λ first fs m fine number. lines_right lines first fs m fine number) (meaning_of line)
    (meaning_right line)
  where
    fault : (kind : ConfigKind) → Breaks (lines_in es) line kind
        → IsFault (before ++ line ∷ lines) (n + 1) kind
    fault kind breaks = record {
      before = before;
      line = line;
      after = lines;
      es = es;
      lines_are = refl;
      number = ap (λ m. m + 1) is;
      fine = read;
      breaks = breaks;
    }

    go_on : ((first : List (List ℕ)) (fs : List LineMeaning) (m : ℕ) → AreRead first fs
        → m ≡ length first
        → AreSo (first ++ lines) (read_lines lines m (lines_in fs) (files_behind [] fs)))
        → (e : LineMeaning) → Means line (Ok e) → has_room (lines_in es) e ≡ true
        → AreSo (before ++ line ∷ lines) (read_lines lines (n + 1) (with_line (lines_in es) e)
        (files_behind [] es ++ file_in (lines_in es) e))
    go_on others e means room =
        let now : AreRead (before ++ line ∷ []) (es ++ e ∷ []) = record {
          each = each_more before es line e read.each means;
          few = subst AreFew (sym (lines_in-more es e)) (few_more (lines_in es) e read.few room);
        } in
        let rest : AreSo ((before ++ line ∷ []) ++ lines)
        (read_lines lines (n + 1) (lines_in (es ++ e ∷ [])) (files_behind [] (es ++ e ∷ []))) =
        others (before ++ line ∷ []) (es ++ e ∷ []) (n + 1) now
        (omega (arith, is, length-append before (line ∷ []))) in
        let places : List FilePlace = files_behind [] es ++ file_in (lines_in es) e in
        subst (λ ls. AreSo ls (read_lines lines (n + 1) (with_line (lines_in es) e) places))
        (append_assoc before (line ∷ []) lines)
        (subst (λ ls. AreSo ((before ++ line ∷ []) ++ lines) (read_lines lines (n + 1) ls places))
        (lines_in-more es e)
        (subst (λ ps. AreSo ((before ++ line ∷ []) ++ lines)
        (read_lines lines (n + 1) (lines_in (es ++ e ∷ [])) ps)) (files_more [] es e) rest))

    by_meaning : ((first : List (List ℕ)) (fs : List LineMeaning) (m : ℕ) → AreRead first fs
        → m ≡ length first
        → AreSo (first ++ lines) (read_lines lines m (lines_in fs) (files_behind [] fs)))
        → (meaning : Result LineMeaning ConfigKind) → Means line meaning
        → AreSo (before ++ line ∷ lines) (next_lines meaning (n + 1) (lines_in es)
        (files_behind [] es) (read_lines lines (n + 1)))
    by_meaning others (Err kind) means = fault kind (inl means)
    by_meaning others (Ok e) means =
        split (has_room (lines_in es) e)
        (λ t. AreSo (before ++ line ∷ lines) (cond t
        (read_lines lines (n + 1) (with_line (lines_in es) e)
        (files_behind [] es ++ file_in (lines_in es) e)) (Bad (n + 1) k.TooMany)))
        (λ room. go_on others e means room)
        (λ full. fault k.TooMany (inr (e, means, full, refl)))

-- the function gives the reading
config_right : (bytes : List ℕ) → IsReading bytes (config_of bytes)
config_right bytes = by_reading (config_of bytes)
    (lines_right (config_lines bytes) [] [] 0 (record { each = tt; few = no_lines_few }) refl)
  where
    by_reading : (reading : Reading) → AreSo (config_lines bytes) reading → IsReading bytes reading
    by_reading (Good ls places) so = (
      record { es = so.0; read = so.1; lines_are = so.2 },
      record { es = so.0; read = so.1; places_are = so.3 },
    )
    by_reading (Bad n kind) so = so

-- and there is no other
same_reading : (bytes : List ℕ) (a b : Reading) → IsReading bytes a → IsReading bytes b → a ≡ b
same_reading bytes (Good ts ps) (Good us qs) first second =
    ap (λ ls. Good ls ps) (one_reading bytes ts us first.0 second.0)
    ∙ ap (Good us) (one_order bytes ps qs first.1 second.1)
same_reading bytes (Good ts ps) (Bad n kind) first second =
    absurd (read_or_fault (config_lines bytes) first.0.es n kind first.0.read second)
same_reading bytes (Bad n kind) (Good ts ps) first second =
    absurd (read_or_fault (config_lines bytes) second.0.es n kind second.0.read first)
same_reading bytes (Bad m a) (Bad n b) first second =
    let same = one_fault (config_lines bytes) m n a b first second in
    ap (λ x. Bad x a) same.0 ∙ ap (Bad n) same.1

pub reading_is : (bytes : List ℕ) (reading : Reading)
    → IsReading bytes reading ↔ (config_of bytes ≡ reading)
reading_is bytes reading = (
  (λ is. same_reading bytes (config_of bytes) reading (config_right bytes) is),
  (λ is. subst (IsReading bytes) is (config_right bytes)),
)

pub read_value : (bytes : List ℕ) (lines : ConfigLines) (places : List FilePlace)
    → IsConfiguration bytes lines × AreFiles bytes places → config_of bytes ≡ Good lines places
read_value bytes lines places read =
    same_reading bytes (config_of bytes) (Good lines places) (config_right bytes) read

pub refusal_value : (bytes : List ℕ) (refusal : ConfigRefusal)
    → RefusesRightly (config_lines bytes) refusal
    → IsConfigRefusal (config_of bytes) refusal
refusal_value bytes (c.Fault f) rightly =
    same_reading bytes (config_of bytes) (Bad f.line f.kind) (config_right bytes) rightly
refusal_value bytes c.NoMemory rightly = tt
