-- A parse of the command of `serve` finds all its options: the texts, and numbers in their ranges.
use Rattle.std.proofs.Common.{◌≡◌, ◌∙◌, ◌<◌, ◌≤◌, ◌&&◌, ap, ℕ, Bool, zero, suc, true, false, not, List, [], ◌∷◌, length, map, Option, Some, None, refl, sym, subst, inl, inr, arith, true≢false, codes}
use Rattle.std.specs.List.{All, list_all, slice_index_or}
use Rattle.std.specs.Str.{bytes_eq}
use Rattle.std.specs.Prelude.{pos}
use Rattle.std.specs.Borrow.{Bor}
use Rattle.std.proofs.lemmas.List.{length-map}
use Rattle.std.proofs.lemmas.Slice.Eq.{bytes_eq-Decides}
use Rattle.clap.specs.Built.{IsParsedFrom, IsPlain}
use Rattle.clap.specs.Facts.{args_of, unwrap_or_range}
use Rattle.clap.specs.Faults.{has_free_rules}
use Rattle.clap.specs.Lexer.{without_minus}
use Rattle.clap.specs.Matches.{found_of, one_text}
use Rattle.clap.specs.Simple.{IsSimple, app_of, is_ready, is_ready_leaf}
use Rattle.clap.specs.Valid.{IsFreeArg}
use Rattle.clap.specs.Walk.{Rule, Text, rule_of, texts}
use Rattle.clap.specs.declared.builder.range.ValueRange.{ValueRange}
use Rattle.clap.specs.declared.builder.arg.Arg.{Arg}
use Rattle.clap.specs.declared.builder.command.Command.{Command}
use Rattle.clap.specs.declared.builder.value_parser.ValueParser.TheVariants as vp
use Rattle.clap.specs.declared.parser.matches.ArgMatches.{ArgMatches}
use Rattle.clap.proofs.CallerLemmas.{default_present, required_has_value}
use Rattle.clap.proofs.FaultLemmas.{free_args}
use Rattle.clap.proofs.SimpleLemmas.{all_simple, is_false, ready_simple, simple_groups}
use Rattle.clap.proofs.WalkLemmas.{both}
use Rattle.ts_words.specs.Found.{HoldsNumber, HoldsText, IsFound}
use Rattle.ts_thread.specs.declared.TheConstants.{MOST_THREADS}
use Rattle.ts_words.specs.Serve.{most_connections, number_option, other_connections, other_threads, serve_app, serve_rules, text_option}
use Rattle.ts_words.proofs.Entries.{entry_reads}

-- ---- names

-- no rule has this name
abbrev misses : Text → List Rule → Bool
misses name = list_all (λ r. not (bytes_eq r.id name))

-- no two rules have one name
abbrev all_distinct : List Rule → Bool
all_distinct [] = true
all_distinct (x ∷ xs) = misses x.id xs && all_distinct xs

missed : (name : Text) (xs : List Rule) (k : ℕ) (r : Rule) → misses name xs ≡ true → k < length xs
    → bytes_eq (slice_index_or xs k r).id name ≡ true → ⊥
missed name [] k r none lt same = absurd (omega arith)
missed name (x ∷ xs) zero r none lt same = true≢false (sym same ∙ is_false _ (both _ _ none).0)
missed name (x ∷ xs) (suc k) r none lt same = missed name xs k r (both _ _ none).1 (omega arith) same

one_place : (xs : List Rule) (j k : ℕ) (r s : Rule) → all_distinct xs ≡ true → j < length xs → k < length xs
    → bytes_eq (slice_index_or xs j r).id (slice_index_or xs k s).id ≡ true → j ≡ k
one_place [] j k r s all low high same = absurd (omega arith)
one_place (x ∷ xs) zero zero r s all low high same = refl
one_place (x ∷ xs) zero (suc k) r s all low high same =
    let flipped = (bytes_eq-Decides (slice_index_or xs k s).id x.id).1 (sym ((bytes_eq-Decides x.id (slice_index_or xs k s).id).0 same)) in
    absurd (missed x.id xs k s (both _ _ all).0 (omega arith) flipped)
one_place (x ∷ xs) (suc j) zero r s all low high same =
    absurd (missed x.id xs j r (both _ _ all).0 (omega arith) same)
one_place (x ∷ xs) (suc j) (suc k) r s all low high same =
    ap suc (one_place xs j k r s (both _ _ all).1 (omega arith) (omega arith) same)

-- ---- the arguments of the command

rule_at : (xs : List Arg) (k : ℕ) (d : Arg) → rule_of (slice_index_or xs k d) ≡ slice_index_or (map rule_of xs) k (rule_of d)
rule_at [] zero d = refl
rule_at [] (suc k) d = refl
rule_at (x ∷ xs) zero d = refl
rule_at (x ∷ xs) (suc k) d = rule_at xs k d

some_texts : (vs : List (Bor Text)) (t : Text) → texts vs ≡ t ∷ [] → 0 < length vs
some_texts [] t e = cc
some_texts (v ∷ vs) t e = omega arith

one_value : (o : Option ValueRange) → o ≡ None → 1 ≤ (unwrap_or_range o).start_inclusive
one_value None e = omega arith
one_value (Some r) e = cc

any_of : {X : Type 0} (xs : List X) → 0 < length xs → X
any_of [] some = absurd (omega arith)
any_of (x ∷ xs) some = x

-- an option has a name of its own
abbrev IsOwnName : Text → Type 0
IsOwnName name = (name ≡ [] → ⊥) × (name ≡ codes "help" → ⊥) × (name ≡ codes "version" → ⊥)

differs : (a b : Text) → bytes_eq a b ≡ false → a ≡ b → ⊥
differs a b e same = true≢false (sym ((bytes_eq-Decides a b).1 same) ∙ e)

own_name : (name : Text) → bytes_eq name [] ≡ false → bytes_eq name (codes "help") ≡ false → bytes_eq name (codes "version") ≡ false
    → IsOwnName name
own_name name a b c = (differs name [] a, differs name (codes "help") b, differs name (codes "version") c)

module _ (c : Command) (m : ArgMatches) (shape : app_of c ≡ serve_app) (p : IsParsedFrom c m) where
  rules_are : map rule_of (args_of c) ≡ serve_rules
  rules_are = ap (λ a. a.top.rules) shape

  is_simple_command : IsSimple c
  is_simple_command = ready_simple c (ap (λ a. is_ready a.top) shape) (ap (λ a. list_all is_ready_leaf a.subs) shape)

  is_free_command : All IsFreeArg (args_of c)
  is_free_command = free_args c is_simple_command (ap (λ a. has_free_rules a.top) shape)

  is_plain_command : IsPlain c
  is_plain_command =
      let no_groups : All (λ a. a.groups.items ≡ []) (args_of c) = simple_groups c (ap (λ a. all_simple a.top.rules) shape) in (
        (λ k d lt. let f = is_free_command k d lt in (f.exclusive, f.conflicts, f.overrides, no_groups k d lt)),
        is_simple_command.groups,
      )

  counted : length (args_of c) ≡ 6
  counted = sym (length-map (args_of c) rule_of) ∙ ap length rules_are

  one_name : (j k : ℕ) (d e : Arg) → j < length (args_of c) → k < length (args_of c)
      → bytes_eq (slice_index_or (args_of c) j e).id.now (slice_index_or (args_of c) k d).id.now ≡ true → j ≡ k
  one_name j k d e low high same =
      let left : rule_of (slice_index_or (args_of c) j e) ≡ slice_index_or serve_rules j (rule_of e) =
      rule_at (args_of c) j e ∙ ap (λ rs. slice_index_or rs j (rule_of e)) rules_are in
      let right : rule_of (slice_index_or (args_of c) k d) ≡ slice_index_or serve_rules k (rule_of d) =
      rule_at (args_of c) k d ∙ ap (λ rs. slice_index_or rs k (rule_of d)) rules_are in
      let as_rules : bytes_eq (slice_index_or serve_rules j (rule_of e)).id (slice_index_or serve_rules k (rule_of d)).id ≡ true =
      subst (λ (r : Rule). bytes_eq r.id (slice_index_or serve_rules k (rule_of d)).id ≡ true) left
      (subst (λ (r : Rule). bytes_eq (slice_index_or (args_of c) j e).id.now r.id ≡ true) right same) in
      one_place serve_rules j k (rule_of e) (rule_of d) refl (subst (λ n. j < n) counted low) (subst (λ n. k < n) counted high) as_rules

  module _ (k : ℕ) (d : Arg) (name : Text) (high : k < 6) (own : IsOwnName name) where
    within : k < length (args_of c)
    within = subst (λ n. k < n) (sym counted) high

    text_there : rule_of (slice_index_or (args_of c) k d) ≡ text_option name → HoldsText (found_of m) name
    text_there is =
        let id : (slice_index_or (args_of c) k d).id.now ≡ name = ap (λ (r : Rule). r.id) is in
        let has = required_has_value c m p is_plain_command is_simple_command.globals (ap (λ a. a.top.subcommand_negates_reqs) shape)
        k d within (ap (λ (r : Rule). r.required) is) (ap (λ (r : Rule). r.action) is) (is_simple_command.args k d within).delimiter
        (one_value _ (ap (λ (r : Rule). r.range) is)) (λ j e low same. one_name j k d e low within same)
        (λ empty. own.0 (sym id ∙ empty))
        (λ auto. elim auto [ inl h ↦ own.1 (sym id ∙ h) | inr h ↦ own.2 (sym id ∙ h) ]) in
        subst (λ t. HoldsText (found_of m) t) id has

    number_there : (other : Text) (most : ℕ) → rule_of (slice_index_or (args_of c) k d) ≡ number_option name other most
        → HoldsNumber (found_of m) name most
    number_there other most is =
        let id : (slice_index_or (args_of c) k d).id.now ≡ name = ap (λ (r : Rule). r.id) is in
        let simple = is_simple_command.args k d within in
        let wants = some_texts _ other (ap (λ (r : Rule). r.defaults) is) in
        let has = default_present c m p is_simple_command.globals k d within (simple.default_ifs, wants) in
        let got = entry_reads c m p k d within (λ j e low same. one_name j k d e low within same)
        (λ auto. elim auto [ inl h ↦ own.1 (sym id ∙ h) | inr h ↦ own.2 (sym id ∙ h) ])
        is_plain_command is_simple_command.globals (λ empty. own.0 (sym id ∙ empty)) (ap (λ (r : Rule). r.action) is) simple.delimiter
        (one_value _ (ap (λ (r : Rule). r.range) is)) (vp.Signed (pos 1) (pos most)) (ap (λ (r : Rule). r.parser) is) has in
        record {
          given = got.0;
          read = subst (λ t. one_text (found_of m) t ≡ Some (without_minus got.0)) id got.1;
          passes = got.2;
        }

  -- all options were found
  pub found_whole : IsFound (found_of m)
  found_whole =
      let d = any_of (args_of c) (subst (λ n. 0 < n) (sym counted) (omega arith)) in
      let at : (k : ℕ) → rule_of (slice_index_or (args_of c) k d) ≡ slice_index_or serve_rules k (rule_of d) =
      λ k. rule_at (args_of c) k d ∙ ap (λ rs. slice_index_or rs k (rule_of d)) rules_are in
      record {
        listen = text_there 0 d (codes "listen") (omega arith) (own_name _ refl refl refl) (at 0);
        origin = text_there 1 d (codes "origin") (omega arith) (own_name _ refl refl refl) (at 1);
        config = text_there 2 d (codes "config") (omega arith) (own_name _ refl refl refl) (at 2);
        threads = number_there 3 d (codes "threads") (omega arith) (own_name _ refl refl refl) other_threads MOST_THREADS (at 3);
        connections = number_there 4 d (codes "connections") (omega arith) (own_name _ refl refl refl) other_connections most_connections (at 4);
      }
