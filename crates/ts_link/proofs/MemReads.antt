-- What a read of a link in memory shows of it as a link.
use Rattle.std.proofs.Common.{◌≡◌, ℕ, ◌+◌, ◌<◌, ◌≤◌, ◌++◌, List, [], ◌∷◌, length, take, true, false, Bool, refl, sym, ap, subst, ◌∙◌, cond, append_assoc, arith}
use Rattle.std.specs.Prelude.{Some, ◌≢◌, ◌↔◌}
use Rattle.std.proofs.lemmas.List.{append-nil}
use Rattle.ts_link.specs.Counts.{Counted, greatest, one_more_if}
use Rattle.ts_link.specs.Inputs.{Input, bytes_of, given_of, stalled_reads, next_answer, next_ahead}
use Rattle.ts_link.specs.InputView.{IsSoundInput}
use Rattle.ts_link.specs.Link.{AgainsFall, MayReplace, IsSure, Reads, WaitsAtStalls}
use Rattle.ts_link.specs.LinkAnswers.{FillsSome, count_got, got_failed, got_again}
use Rattle.ts_link.specs.MemLink.{LinkState, look_of, read_by, ahead_by, read_answer, after_read}
use Rattle.ts_link.specs.Stalls.{StallsAt, stands_at}
use Rattle.ts_link.specs.Numbered.{mishap_at, is_listed, after_call, waits_left}
use Rattle.ts_link.specs.declared.link.Got.{Got}
use Rattle.ts_link.specs.declared.numbered.Mishap.{Mishap}
use Rattle.ts_link.specs.declared.numbered.Mishap.TheVariants.{Nothing, Fails, Waits}
use Rattle.ts_link.specs.declared.piece.Piece.{Piece}
use Rattle.ts_link.specs.declared.piece.Piece.TheVariants.{Bytes, Stall}
use Rattle.ts_link.proofs.CallNumbers.{waits_fall, waits_listed, no_mishap, none_wait, waits_by}
use Rattle.ts_link.proofs.PiecesAhead.{next_moves, next_ends, next_fills, next_stalls, whole_by}
use Rattle.ts_link.proofs.StallsAhead.{here_waits, waits_here}

-- the same list may take its own place
pub same_replaces : (given left : List ℕ) → MayReplace given left left
same_replaces [] left = omega arith
same_replaces (b ∷ bs) left = refl

-- what was given goes on by what a read moved
pub given_on : (i : Input) (ahead : List Piece) (more : List ℕ) → IsSoundInput i
    → bytes_of i.ahead ≡ more ++ bytes_of ahead
    → given_of (record i { ahead = ahead }) ≡ given_of i ++ more
given_on i ahead more sound moved =
    let before : List ℕ = given_of i in
    let e : i.source ≡ (before ++ more) ++ bytes_of ahead =
    sym sound.whole ∙ ap (λ xs. before ++ xs) moved ∙ sym (append_assoc before more (bytes_of ahead)) in
    whole_by i.source (before ++ more) (bytes_of ahead) e

-- the link after a read at which so much goes wrong
abbrev pub read_state : LinkState → ℕ → Mishap → LinkState
read_state s room m = record s {
  input = record s.input { ahead = ahead_by m room s.input.ahead };
  reads = after_call s.reads;
  faults = one_more_if (got_failed (read_by m room s.input.ahead)) s.faults;
  waits = one_more_if (got_again (read_by m room s.input.ahead)) s.waits;
}

-- a sure link's calls do not go wrong by their numbers
sure_read : (s : LinkState) → IsSure (look_of s) → mishap_at s.reads ≡ Nothing
sure_read s h = no_mishap s.reads h.fail_reads h.again_reads

-- a count of answers of one kind rises at each
pub counted_if : (b : Bool) (n : ℕ) → n ≤ greatest → Counted b n (one_more_if b n)
counted_if true n h = omega arith
counted_if false n h = refl

pub waits_if : (b : Bool) (m n : ℕ) → n + cond b 1 0 ≤ m → AgainsFall b (Some m) (Some n)
waits_if true m n h = omega arith
waits_if false m n h = omega arith

-- how many Again answers it has left
abbrev agains_of : LinkState → ℕ
agains_of s = stalled_reads s.input.ahead + waits_left s.reads + waits_left s.writes

-- of a sure link all of them are at stalls
agains_stalled : (s : LinkState) → IsSure (look_of s) → agains_of s ≡ stalled_reads s.input.ahead
agains_stalled s h =
    omega (arith, none_wait s.reads h.again_reads, none_wait s.writes h.again_writes)

next_answers : (room : ℕ) (ps : List Piece) → got_failed (next_answer room ps) ≡ false
next_answers room [] = refl
next_answers room (Bytes bs ∷ ps) = refl
next_answers room (Stall k ∷ ps) = refl

-- where a stall stands at a place, there is one
stands_some : (place : ℕ) (stalls : List (ℕ × ℕ)) → stands_at place stalls ≡ true → stalls ≢ []
stands_some place [] at e = let none : ⊥ = cc in absurd none
stands_some place (s ∷ ss) at e = let none : ⊥ = cc in absurd none

-- a sure link's read that goes on with what is ahead waits exactly where a stall stands
stalls_by : (s : LinkState) (room : ℕ) → IsSure (look_of s) → IsSoundInput s.input
    → got_again (next_answer room s.input.ahead) ≡ true
    ↔ StallsAt (length (given_of s.input)) (agains_of s) s.input.stalls
stalls_by s room h fine =
    let all : agains_of s ≡ stalled_reads s.input.ahead = agains_stalled s h in
    let place : ℕ = length (given_of s.input) in (
      waits_here room place (agains_of s) s.input.stalls s.input.ahead fine.front fine.stalls all,
      here_waits room place (agains_of s) s.input.stalls s.input.ahead fine.front fine.stalls all,
    )

-- and so does each
pub waits_exactly : (s : LinkState) (answer : Got) (room : ℕ) → answer ≡ read_answer s room
    → (mishap_at s.reads ≡ Nothing → IsSoundInput s.input)
    → WaitsAtStalls (look_of s) (got_again answer)
waits_exactly s answer room a sound h =
    let fine : mishap_at s.reads ≡ Nothing = sure_read s h in
    let same : answer ≡ next_answer room s.input.ahead =
    a ∙ ap (λ m. read_by m room s.input.ahead) fine in
    subst (λ (g : Got). got_again g ≡ true ↔ StallsAt (length (given_of s.input)) (agains_of s) s.input.stalls)
    (sym same) (stalls_by s room h (sound fine))

reads_by : (s : LinkState) (room : ℕ) (into : List ℕ) (m : Mishap) → m ≡ mishap_at s.reads
    → room ≡ length into → 0 < room
    → s.reads.made ≤ greatest → s.faults ≤ greatest → s.waits ≤ greatest
    → (m ≡ Nothing → IsSoundInput s.input)
    → take (count_got (read_by m room s.input.ahead)) into ≡ take (count_got (read_by m room s.input.ahead))
    (bytes_of s.input.ahead)
    → Reads true (look_of s) (look_of (read_state s room m)) (read_by m room s.input.ahead) into
reads_by s room into Fails e r some calls faults waits sound bytes = record {
  fills = tt;
  once = record { reads = refl; writes = refl };
  calls = record {
    source = refl;
    name = refl;
    plan = refl;
    carried = refl;
    uploaded = refl;
    before = refl;
    faults = omega arith;
    waits = refl;
    agains = omega (arith, waits_fall s.reads calls);
  };
  sure = λ h. let known : Fails ≡ Nothing = e ∙ sure_read s h in let none : ⊥ = cc in absurd none;
  told = λ _. record {
    before = bytes_of s.input.ahead;
    replaced = same_replaces (given_of s.input)
        (bytes_of s.input.ahead);
    moved = refl;
    given = sym (append-nil (given_of s.input));
    taken = refl;
  };
  ends = λ _. tt;
}
reads_by s room into Waits e r some calls faults waits sound bytes =
    let listed : is_listed s.reads.made s.reads.again ≡ true = waits_by (is_listed s.reads.made s.reads.fail)
    (is_listed s.reads.made s.reads.again) (sym e) in
    record {
      fills = tt;
      once = record { reads = refl; writes = refl };
      calls = record {
        source = refl;
        name = refl;
        plan = refl;
        carried = refl;
        uploaded = refl;
        before = refl;
        faults = refl;
        waits = omega arith;
        agains = omega (arith, waits_listed s.reads calls listed);
      };
      sure = λ h. let known : Waits ≡ Nothing = e ∙ sure_read s h in let none : ⊥ = cc in absurd none;
      told = λ _. record {
        before = bytes_of s.input.ahead;
        replaced = same_replaces (given_of s.input)
            (bytes_of s.input.ahead);
        moved = refl;
        given = sym (append-nil (given_of s.input));
        taken = refl;
      };
      ends = λ _. tt;
    }
reads_by s room into Nothing e r some calls faults waits sound bytes =
    let ahead : List Piece = s.input.ahead in
    let answer : Got = next_answer room ahead in
    let rest : List Piece = next_ahead room ahead in
    let fine : IsSoundInput s.input = sound refl in
    let moved : bytes_of ahead ≡ take (count_got answer) into ++ bytes_of rest =
    next_moves room ahead ∙ ap (λ xs. xs ++ bytes_of rest) (sym bytes) in
    record {
      fills = subst (λ n. FillsSome answer n) r (next_fills room ahead some fine.front);
      once = record { reads = refl; writes = refl };
      calls = record {
        source = refl;
        name = refl;
        plan = refl;
        carried = refl;
        uploaded = refl;
        before = refl;
        faults = counted_if (got_failed answer) s.faults faults;
        waits = counted_if (got_again answer) s.waits waits;
        agains = waits_if (got_again answer) (agains_of s) (agains_of (read_state s room Nothing))
            (omega (arith, next_stalls room ahead fine.front, waits_fall s.reads calls));
      };
      sure = λ h. (
        next_answers room ahead,
        λ e. stands_some (length (given_of s.input)) s.input.stalls ((stalls_by s room h fine).0 e).stands,
      );
      told = λ _. record {
        before = bytes_of ahead;
        replaced = same_replaces (given_of s.input) (bytes_of ahead);
        moved = moved;
        given = given_on s.input rest (take (count_got answer) into) fine moved;
        taken = refl;
      };
      ends = λ _. next_ends room ahead;
    }

-- what a read of a link in memory shows
pub reads_right : (s t : LinkState) (answer : Got) (into : List ℕ) (room : ℕ) → answer ≡ read_answer s room
    → t ≡ after_read s room answer
    → room ≡ length into → 0 < room → s.reads.made ≤ greatest → s.faults ≤ greatest → s.waits ≤ greatest
    → (mishap_at s.reads ≡ Nothing → IsSoundInput s.input)
    → take (count_got answer) into ≡ take (count_got answer) (bytes_of s.input.ahead)
    → Reads true (look_of s) (look_of t) answer into
reads_right s t answer into room a after r some calls faults waits sound bytes =
    let same : take (count_got (read_answer s room)) into ≡ take (count_got (read_answer s room))
    (bytes_of s.input.ahead) =
    subst (λ (g : Got). take (count_got g) into ≡ take (count_got g) (bytes_of s.input.ahead)) a bytes in
    let once = reads_by s room into (mishap_at s.reads) refl r some calls faults waits sound same in
    subst (λ (u : LinkState). Reads true (look_of s) (look_of u) answer into) (sym after)
    (subst (λ (g : Got). Reads true (look_of s) (look_of (after_read s room g)) g into) (sym a) once)
