-- What a parse finds of an option that has a default: `clap` shows its callers the same of required ones alone.
use Rattle.std.proofs.Common.{◌≡◌, ◌∙◌, ◌<◌, ◌≤◌, ap, ℕ, Bool, zero, suc, true, false, List, [], ◌∷◌, length, Option, Some, None, refl, sym, subst, inl, inr, arith}
use Rattle.std.specs.List.{All, Any, slice_index_or}
use Rattle.std.specs.Str.{bytes_eq}
use Rattle.std.specs.Prelude.{find, is_some, option_map, slice_get, unwrap_or}
use Rattle.std.specs.Borrow.{Bor}
use Rattle.std.proofs.lemmas.Bool.{cases_lt}
use Rattle.std.proofs.lemmas.List.{get_or_default}
use Rattle.std.proofs.lemmas.List.Elements.{All-drop, All-get_or}
use Rattle.std.proofs.lemmas.Slice.Eq.{bytes_eq-Decides}
use Rattle.clap.specs.Built.{IsAuto, IsParsedFrom, IsPlain, SameRules}
use Rattle.clap.specs.Facts.{Entry, EntryPasses, HasId, MayBeEmpty, PassesArg, args_of, groups_of, least_values, parser_of, parser_of_value}
use Rattle.clap.specs.Matches.{found_of, matched_of, one_text}
use Rattle.clap.specs.Values.{Accepts, read_as, reading_of}
use Rattle.clap.specs.declared.builder.action.ArgAction.TheVariants.{Count, Set}
use Rattle.clap.specs.declared.builder.arg.Arg.{Arg}
use Rattle.clap.specs.declared.builder.command.Command.{Command}
use Rattle.clap.specs.declared.builder.command.Command.TheViews.{out-Command}
use Rattle.clap.specs.declared.builder.value_parser.Reading.{Reading}
use Rattle.clap.specs.declared.builder.value_parser.ValueParser.{ValueParser}
use Rattle.clap.specs.declared.parser.matches.ArgMatches.{ArgMatches}
use Rattle.clap.specs.declared.parser.matches.Found.{Found}
use Rattle.clap.specs.declared.parser.matches.MatchedArg.{MatchedArg}

-- the first entry of an id, where one has it
find_there : (P : Entry → Type 0) (xs : List Entry) (id : List ℕ) (i : ℕ) → i < length xs
    → ((d : Entry) → bytes_eq (slice_index_or xs i d).0.now id ≡ true) → All P xs
    → (e : Entry) × (find (λ x. bytes_eq x.0.now id) xs ≡ Some e) × (bytes_eq e.0.now id ≡ true) × P e
find_there P [] id i lt hit all = absurd (omega arith)
find_there P (x ∷ xs) id i lt hit all =
    go (bytes_eq x.0.now id) refl i lt hit (λ k low there. find_there P xs id k low there (All-drop P 1 (x ∷ xs) all))
  where
    go : (t : Bool) → bytes_eq x.0.now id ≡ t → (k : ℕ) → k < length (x ∷ xs)
        → ((d : Entry) → bytes_eq (slice_index_or (x ∷ xs) k d).0.now id ≡ true)
        → ((j : ℕ) → j < length xs → ((d : Entry) → bytes_eq (slice_index_or xs j d).0.now id ≡ true)
        → (e : Entry) × (find (λ y. bytes_eq y.0.now id) xs ≡ Some e) × (bytes_eq e.0.now id ≡ true) × P e)
        → (e : Entry) × (find (λ y. bytes_eq y.0.now id) (x ∷ xs) ≡ Some e) × (bytes_eq e.0.now id ≡ true) × P e
    go true t k low at rec = (x, rw t refl, t, All-get_or P (x ∷ xs) 0 x (omega arith) all)
    go false t zero low at rec =
        let bad : false ≡ true = sym t ∙ at x in
        cc
    go false t (suc k) low at rec =
        let got = rec k (omega arith) at in
        (got.0, rw t got.1, got.2, got.3)

-- the first of some values
first_there : (P : Bor (List ℕ) → Type 0) (vs : List (Bor (List ℕ))) → 0 < length vs → All P vs
    → (v : Bor (List ℕ)) × (slice_get vs 0 ≡ Some v) × P v
first_there P [] some all = absurd (omega arith)
first_there P (v ∷ vs) some all = (v, refl, All-get_or P (v ∷ vs) 0 v (omega arith) all)

-- the text that is read of an entry with a first value
text_at : (f : Found) (id : List ℕ) (x : MatchedArg) (how : Reading) (v : Bor (List ℕ)) → matched_of f id ≡ Some x
    → x.reading ≡ how → slice_get x.vals.items 0 ≡ Some v → one_text f id ≡ Some (read_as how v.now)
text_at f id x how v found is first = rw (found, is, first) refl

module _ (old : Command) (m : ArgMatches) (p : IsParsedFrom old m) (k : ℕ) (d : Arg)
    (within : k < length (args_of old))
    (unique : (j : ℕ) (e : Arg) → j < length (args_of old)
    → bytes_eq (slice_index_or (args_of old) j e).id.now (slice_index_or (args_of old) k d).id.now ≡ true → j ≡ k)
    (own : IsAuto (slice_index_or (args_of old) k d) → ⊥) where
  -- an argument of the built command with the id of the caller's argument has that one's rules
  same_rules : (j : ℕ) (x : Arg) → j < length (args_of p.built) → slice_index_or (args_of p.built) j x ≡ x
      → bytes_eq x.id.now (slice_index_or (args_of old) k d).id.now ≡ true
      → SameRules (slice_index_or (args_of old) k d) x
  same_rules j x high at same =
      let id = (slice_index_or (args_of old) k d).id.now in
      let x_id : x.id.now ≡ id = (bytes_eq-Decides x.id.now id).0 same in
      elim (cases_lt j (length (args_of old))) [
        | inl under ↦
            let s = subst (λ w. SameRules (slice_index_or (args_of old) j x) w) at (p.from.kept j x under).1 in
            let old_same : bytes_eq (slice_index_or (args_of old) j x).id.now id ≡ true = rw (← s.id) same in
            let place = unique j x under old_same in
            let one : slice_index_or (args_of old) j x ≡ slice_index_or (args_of old) k d = rw place (get_or_default (args_of old) k x d within) in
            rw (← one) s
        | inr over ↦
            let flag = subst IsAuto at (p.from.extra j x over high) in
            absurd (own (elim flag [ inl h ↦ inl (sym x_id ∙ h) | inr h ↦ inr (sym x_id ∙ h) ]))
      ]

  -- where one of the built command's arguments with this id is something, one with the caller's rules is
  one_alike : (P : Arg → Type 0) (id : List ℕ) → id ≡ (slice_index_or (args_of old) k d).id.now
      → Any (λ a. (bytes_eq a.id.now id ≡ true) × P a) (args_of p.built)
      → (a : Arg) × SameRules (slice_index_or (args_of old) k d) a × P a
  one_alike P id is any =
      (any.1, same_rules any.0 any.1 any.2 any.3 (subst (λ t. bytes_eq any.1.id.now t ≡ true) is any.4.0), any.4.1)

  -- an entry of the argument has a value that passed its parser, and is read as that parser says
  pub entry_reads : IsPlain old → (out-Command old).has_globals ≡ false
      → ((slice_index_or (args_of old) k d).id.now ≡ [] → ⊥)
      → (slice_index_or (args_of old) k d).action ≡ Some Set → (slice_index_or (args_of old) k d).val_delim ≡ None
      → 1 ≤ least_values (slice_index_or (args_of old) k d)
      → (q : ValueParser) → (slice_index_or (args_of old) k d).value_parser ≡ Some q
      → HasId (found_of m) (slice_index_or (args_of old) k d).id.now
      → (t : List ℕ) × (one_text (found_of m) (slice_index_or (args_of old) k d).id.now ≡ Some (read_as (reading_of q) t))
      × Accepts (slice_index_or (args_of old) k d).ignore_case q t
  entry_reads plain globals named set delim least q parser has =
      let a = slice_index_or (args_of old) k d in
      let f = found_of m in
      let values = (p.parsed (p.from.globals ∙ globals)).values in
      let got = find_there (EntryPasses p.built) f.entries.items a.id.now has.0 has.1 has.2 values in
      let e = got.0 in
      let key : e.0.now ≡ a.id.now = (bytes_eq-Decides e.0.now a.id.now).0 got.2 in
      let passes = got.3 in
      let no_groups : groups_of p.built ≡ [] = (p.from.plain plain).1 in
      let no_group : e.1.is_group ≡ true → ⊥ = λ g. elim (passes.3 g) [
        | inl empty ↦ named (sym key ∙ empty)
        | inr lots ↦
            let bad : 0 < 0 = rw no_groups at lots in
            absurd (omega arith)
      ] in
      let some : 0 < length e.1.vals.items = elim passes.1 [
        | inl h ↦ absurd (no_group h.0)
        | inr (inl v) ↦ v
        | inr (inr (inl h)) ↦
            let one = one_alike (λ x. unwrap_or x.action Set ≡ Count) e.0.now key h.1 in
            let bad : Set ≡ Count = sym (ap (λ o. unwrap_or o Set) (one.1.action Set set)) ∙ one.2 in
            cc
        | inr (inr (inr h)) ↦
            let one = one_alike MayBeEmpty e.0.now key h in
            elim one.2 [
              | inl none ↦
                  let more = one.1.least set least in
                  absurd (omega arith)
              | inr cut ↦
                  let bad : false ≡ true = sym (ap is_some (one.1.val_delim ∙ delim)) ∙ cut in
                  cc
            ]
      ] in
      let all : All (λ v. PassesArg p.built e.0.now v.now) e.1.vals.items = elim passes.0 [
        | inl g ↦ absurd (no_group g)
        | inr vals ↦ vals
      ] in
      let how : e.1.reading ≡ reading_of q = elim passes.4 [
        | inl g ↦ absurd (no_group g)
        | inr h ↦
            let one = one_alike (λ x. reading_of (parser_of x) ≡ e.1.reading) e.0.now key h in
            sym one.2 ∙ ap (λ o. reading_of (parser_of_value o)) (one.1.parser q parser)
      ] in
      let first = first_there (λ v. PassesArg p.built e.0.now v.now) e.1.vals.items some all in
      let text = text_at f a.id.now e.1 (reading_of q) first.0 (ap (option_map (λ (x : Entry). x.1)) got.1) how first.1 in
      let one = one_alike (λ x. Accepts x.ignore_case (parser_of x) first.0.now) e.0.now key first.2 in
      let as_q : Accepts one.0.ignore_case q first.0.now =
      subst (λ (o : Option ValueParser). Accepts one.0.ignore_case (parser_of_value o) first.0.now) (one.1.parser q parser) one.2 in
      (first.0.now, text, subst (λ (b : Bool). Accepts b q first.0.now) one.1.ignore_case as_q)
