-- Lines have one reading, or one first fault.
use Rattle.std.proofs.Common.{◌≡◌, ℕ, List, [], ◌∷◌, ◌++◌, length, Bool, true, false, Result, Ok, Err, inl, inr, ◌⊎◌, refl, ap, sym, ◌∙◌, subst, arith}
use Rattle.std.specs.Prelude.{IsSome, MatchBool}
use Rattle.std.specs.List.{All, AllByRecursion, AllZip}
use Rattle.std.proofs.lemmas.List.Elements.{All-from_recursion}
use Rattle.ts_lists.proofs.Fronts.{two_cuts}
use Rattle.ts_config.specs.declared.setup.ConfigKind.{ConfigKind}
use Rattle.ts_config.specs.declared.setup.ConfigKind.TheVariants as k
use Rattle.ts_config.specs.declared.setup.FilePlace.{FilePlace}
use Rattle.ts_config.specs.declared.setup.LineMeaning.{LineMeaning}
use Rattle.ts_config.specs.Lines.{config_lines}
use Rattle.ts_config.specs.Setup.{ConfigLines, file_at}
use Rattle.ts_config.specs.Table.{line_entry}
use Rattle.ts_config.specs.Reading.{is_text, Means, MeansByWords, lines_in, files_behind, has_room, AreFew, AreFiles, AreRead, Breaks, IsFault, IsConfiguration}
use Rattle.ts_config.proofs.Scan.{one_words}
use Rattle.ts_config.proofs.LinesSoFar.{places_right, room_before}

by_words_once : (line : List ℕ) (a b : Result LineMeaning ConfigKind) → MeansByWords line a
    → MeansByWords line b
    → a ≡ b
by_words_once line a b (inl (vs, are, is)) (inl (ws, too, also)) =
    is ∙ ap (line_entry) (one_words vs ws line are too) ∙ sym also
by_words_once line a b (inl (vs, are, is)) (inr (none, quote)) = absurd (none vs are)
by_words_once line a b (inr (none, quote)) (inl (ws, are, is)) = absurd (none ws are)
by_words_once line a b (inr (none, quote)) (inr (too, also)) = quote ∙ sym also

-- a line means one thing
pub means_once : (line : List ℕ) (a b : Result LineMeaning ConfigKind) → Means line a
    → Means line b → a ≡ b
means_once line a b first second = by_text (is_text line) first second
  where
    by_text : (t : Bool) → MatchBool t (MeansByWords line a) (a ≡ Err k.Text)
        → MatchBool t (MeansByWords line b) (b ≡ Err k.Text) → a ≡ b
    by_text true x y = by_words_once line a b x y
    by_text false x y = x ∙ sym y

one_entry : (line : List ℕ) (e f : LineMeaning) → Means line (Ok e) → Means line (Ok f) → e ≡ f
one_entry line e f first second = let same : Ok e ≡ Ok f = means_once line (Ok e) (Ok f) first second in cc

not_both : (line : List ℕ) (e : LineMeaning) (kind : ConfigKind)
    → Means line (Ok e) → Means line (Err kind) → ⊥
not_both line e kind fine faulty =
    let same : Ok e ≡ Err kind = means_once line (Ok e) (Err kind) fine faulty in cc

each_once : (lines : List (List ℕ)) (es fs : List LineMeaning)
    → AllZip (λ l m. Means l (Ok m)) lines es
    → AllZip (λ l m. Means l (Ok m)) lines fs → es ≡ fs
each_once [] [] [] a b = refl
each_once [] [] (f ∷ fs) a b = absurd b
each_once [] (e ∷ es) fs a b = absurd a
each_once (l ∷ ls) [] fs a b = absurd a
each_once (l ∷ ls) (e ∷ es) [] a b = absurd b
each_once (l ∷ ls) (e ∷ es) (f ∷ fs) a b =
    ap (λ x. x ∷ es) (one_entry l e f a.0 b.0) ∙ ap (λ xs. f ∷ xs) (each_once ls es fs a.1 b.1)

pub one_reading : (bytes : List ℕ) (ts us : ConfigLines) → IsConfiguration bytes ts
    → IsConfiguration bytes us → ts ≡ us
one_reading bytes ts us a b =
    a.lines_are ∙ ap lines_in (each_once (config_lines bytes) a.es b.es a.read.each b.read.each)
    ∙ sym b.lines_are

-- and the files of its lines in one order
pub one_order : (bytes : List ℕ) (ps qs : List FilePlace) → AreFiles bytes ps → AreFiles bytes qs → ps ≡ qs
one_order bytes ps qs a b =
    a.places_are
    ∙ ap (files_behind []) (each_once (config_lines bytes) a.es b.es a.read.each b.read.each)
    ∙ sym b.places_are

-- each place in the list of files of what was read is that of a line with a file
pub places_read : (bytes : List ℕ) (lines : ConfigLines) (places : List FilePlace) → IsConfiguration bytes lines
    → AreFiles bytes places → All (λ place. IsSome (file_at lines place)) places
places_read bytes lines places read files =
    let same = each_once (config_lines bytes) files.es read.es files.read.each read.read.each in
    let right = subst (λ es. AllByRecursion (λ place. IsSome (file_at (lines_in es) place)) places) same
    (subst (AllByRecursion (λ place. IsSome (file_at (lines_in files.es) place))) (sym files.places_are)
    (places_right [] files.es)) in
    All-from_recursion (λ place. IsSome (file_at lines place)) places
    (subst (λ ls. AllByRecursion (λ place. IsSome (file_at ls place)) places) (sym read.lines_are) right)

-- the entries of lines, cut at a line
cut_entries : (before : List (List ℕ)) (line : List ℕ) (after : List (List ℕ)) (es : List LineMeaning)
    → AllZip (λ l m. Means l (Ok m)) (before ++ line ∷ after) es
    → (fs : List LineMeaning) × (e : LineMeaning) × (gs : List LineMeaning) × (es ≡ fs ++ e ∷ gs)
    × AllZip (λ l m. Means l (Ok m)) before fs × Means line (Ok e)
cut_entries [] line after [] each = absurd each
cut_entries [] line after (e ∷ es) each = ([], e, es, refl, tt, each.0)
cut_entries (l ∷ ls) line after [] each = absurd each
cut_entries (l ∷ ls) line after (e ∷ es) each =
    let (fs, f, gs, is, fine, means) = cut_entries ls line after es each.1 in
    (e ∷ fs, f, gs, ap (λ xs. e ∷ xs) is, (each.0, fine), means)

-- no lines are read and have a fault
pub read_or_fault : (lines : List (List ℕ)) (es : List LineMeaning) (n : ℕ) (kind : ConfigKind)
    → AreRead lines es
    → IsFault lines n kind → ⊥
read_or_fault lines es n kind read fault =
    let (fs, e, gs, is, fine, means) =
    cut_entries fault.before fault.line fault.after es
    (subst (λ ls. AllZip (λ l m. Means l (Ok m)) ls es) fault.lines_are read.each) in
    let same : fs ≡ fault.es = each_once fault.before fs fault.es fine fault.fine.each in
    by_cause fs e gs is same means fault.breaks
  where
    by_cause : (fs : List LineMeaning) (e : LineMeaning) (gs : List LineMeaning)
        → es ≡ fs ++ e ∷ gs → fs ≡ fault.es
        → Means fault.line (Ok e) → Breaks (lines_in fault.es) fault.line kind → ⊥
    by_cause fs e gs is same means (inl faulty) = not_both fault.line e kind means faulty
    by_cause fs e gs is same means (inr (f, also, full, too_many)) =
        let entry : e ≡ f = one_entry fault.line e f means also in
        let room : has_room (lines_in fs) e ≡ true =
        room_before fs e gs (subst (λ xs. AreFew (lines_in xs)) is read.few) in
        let none : has_room (lines_in fs) e ≡ false =
        ap (λ xs. has_room (lines_in xs) e) same ∙ ap (has_room (lines_in fault.es)) entry ∙ full in
        let wrong : true ≡ false = sym room ∙ none in cc

-- a fault among the first lines is one of these lines alone
fault_before : (lines : List (List ℕ)) (n : ℕ) (kind : ConfigKind) (fault : IsFault lines n kind)
    (first more : List (List ℕ)) → first ≡ fault.before ++ fault.line ∷ more → IsFault first n kind
fault_before lines n kind fault first more is = record {
  before = fault.before;
  line = fault.line;
  after = more;
  es = fault.es;
  lines_are = is;
  number = fault.number;
  fine = fault.fine;
  breaks = fault.breaks;
}

one_cause : (line : List ℕ) (ts : ConfigLines) (a b : ConfigKind) → Breaks ts line a
    → Breaks ts line b → a ≡ b
one_cause line ts a b (inl x) (inl y) = let same : Err a ≡ Err b = means_once line (Err a) (Err b) x y in cc
one_cause line ts a b (inl x) (inr (e, means, many, too_many)) = absurd (not_both line e a means x)
one_cause line ts a b (inr (e, means, many, too_many)) (inl y) = absurd (not_both line e b means y)
one_cause line ts a b (inr (e, means, many, too_many)) (inr (f, also, more, also_many)) =
    too_many ∙ sym also_many

pub one_fault : (lines : List (List ℕ)) (m n : ℕ) (a b : ConfigKind) → IsFault lines m a
    → IsFault lines n b → (m ≡ n) × (a ≡ b)
one_fault lines m n a b first second =
    by_place (two_cuts first.before first.line first.after second.before second.line second.after
    (sym first.lines_are ∙ second.lines_are))
  where
    by_place : ((first.before ≡ second.before) × (first.line ≡ second.line))
        ⊎ (((more : List (List ℕ)) × (second.before ≡ first.before ++ first.line ∷ more))
        ⊎ ((more : List (List ℕ)) × (first.before ≡ second.before ++ second.line ∷ more)))
        → (m ≡ n) × (a ≡ b)
    by_place (inl (same, line)) =
        let entries : first.es ≡ second.es =
        each_once first.before first.es second.es first.fine.each
        (subst (λ ls. AllZip (λ l x. Means l (Ok x)) ls second.es) (sym same) second.fine.each) in
        let breaks : Breaks (lines_in first.es) first.line b =
        subst (λ es. Breaks (lines_in es) first.line b) (sym entries)
        (subst (λ l. Breaks (lines_in second.es) l b) (sym line) second.breaks) in (
          omega (arith, first.number, second.number, ap length same),
          one_cause first.line (lines_in first.es) a b first.breaks breaks,
        )
    by_place (inr (inl (more, is))) =
        absurd (read_or_fault second.before second.es m a second.fine
        (fault_before lines m a first second.before more is))
    by_place (inr (inr (more, is))) =
        absurd (read_or_fault first.before first.es n b first.fine
        (fault_before lines n b second first.before more is))
