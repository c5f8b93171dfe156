-- A front as a link: what a write to it and calls of its client leave, and what is known of its client's
-- bytes.
use Rattle.std.proofs.Common.{◌≡◌, ◌≢◌, ℕ, ◌≤◌, Bool, true, List, [], ◌++◌, length, refl, sym, ap, subst, ◌∙◌}
use Rattle.std.proofs.Common.{arith, append_assoc, length-append}
use Rattle.std.proofs.lemmas.List.{take-append-drop}
use Rattle.ts_lists.proofs.Fronts.{rest_by_length, same_fronts}
use Rattle.httparse.specs.Grammar.{print_request}
use Rattle.ts_link.specs.Counts.{one_more}
use Rattle.ts_link.specs.Link.{Lacks, Look, MayReplace, Reads, Writes, all_of}
use Rattle.ts_link.specs.declared.link.Got.{Got}
use Rattle.ts_link.specs.declared.link.Put.{Put}
use Rattle.ts_link.specs.declared.link.Put.TheVariants as P
use Rattle.ts_upstream.specs.Uploads.{UploadsClient}
use Rattle.ts_request.specs.Front.{AwaitsHead, BodyStays, Holds, HoldsLink, HoldsText, IsShown, KeepsBody}
use Rattle.ts_request.specs.Front.{Shows, body_given, body_given_by, body_left, body_left_by, body_most_by}
use Rattle.ts_request.specs.Front.{given_by, left_by, shown_through}
use Rattle.ts_request.specs.Laws.{stage_stays}
use Rattle.ts_request.specs.Text.{Text, no_text, waiting}
use Rattle.ts_request.specs.Upload.{Strips, other, upload}
use Rattle.ts_request.specs.declared.stage.Stage.{Stage}
use Rattle.ts_request.specs.declared.stage.Stage.TheVariants as S
use Rattle.ts_request.proofs.EmptyLines.{blank_none}
use Rattle.ts_request.proofs.LinkCalls.{replace_none, replace_not, replace_short}
use Rattle.ts_request.proofs.FrontMoves.{before_is, body_is, has_given, holds_same, link_same}

-- ---- what the client may still give, after a call that read nothing of it

-- what a call left of it, by how far the front is: before anything came another list may stand in its place
left_stays : (s : Stage) → s ≢ S.Heading → (t : Text) (l m : Look) → HoldsLink s t l
    → MayReplace l.given l.left m.left → m.left ≡ l.left
left_stays S.Heading known t l m link may = absurd (known refl)
left_stays S.Passing known t l m link may = before_is l.given l.left m.left link.some may
left_stays (S.Uploading framing) known t l m link may =
    replace_not l.given l.left m.left (has_given l.given link.head framing
    (link.handed ++ t.behind) link.has) may

module _ (t : Text) (l m : Look) (given : m.given ≡ l.given) where
  shown_left : (s : Stage) → HoldsLink s t l → MayReplace l.given l.left m.left
      → MayReplace (given_by s t l.given) (left_by s t l.left) (left_by s t m.left)
  shown_left S.Heading link may =
      omega (
        arith,
        replace_short l.given l.left m.left may,
        length-append t.front l.left,
        length-append
            t.front m.left,
      )
  shown_left S.Passing link may =
      subst (λ x. MayReplace (given_by S.Passing t l.given) (left_by S.Passing t l.left)
      (left_by S.Passing t x))
      (sym (left_stays S.Passing (λ wrong. absurd (cc)) t l m link may)) (replace_none _ _)
  shown_left (S.Uploading framing) link may = replace_none _ _

  body_left_stays : (s : Stage) → HoldsLink s t l → MayReplace l.given l.left m.left
      → BodyStays s (body_left_by s t l.left) (body_left_by s t m.left)
  body_left_stays S.Heading link may = tt
  body_left_stays S.Passing link may = tt
  body_left_stays (S.Uploading framing) link may =
      ap (λ x. t.behind ++ x) (left_stays (S.Uploading framing) (λ wrong. absurd (cc)) t l m link may)

  body_most_stays : (s : Stage) → HoldsLink s t l → MayReplace l.given l.left m.left
      → body_most_by s t m ≤ body_most_by s t l
  body_most_stays S.Heading link may =
      let short = replace_short l.given l.left m.left may in
      let long = ap length given in
      omega (arith, short, long, length-append l.given l.left, length-append m.given m.left)
  body_most_stays S.Passing link may = omega arith
  body_most_stays (S.Uploading framing) link may =
      let short = replace_short l.given l.left m.left may in
      omega (arith, short, length-append t.behind l.left, length-append t.behind m.left)

  link_stays : (s : Stage) → HoldsLink s t l → MayReplace l.given l.left m.left → HoldsLink s t m
  link_stays S.Heading link may = given ∙ link
  link_stays S.Passing link may =
      link_same t l m given (left_stays S.Passing (λ wrong. absurd (cc)) t l m link may) S.Passing link
  link_stays (S.Uploading framing) link may =
      link_same t l m given (left_stays (S.Uploading framing) (λ wrong. absurd (cc)) t l m link may)
      (S.Uploading framing) link

-- ---- a front that is new

pub new_holds : (tells : Bool) (t : Text) (l : Look) → t ≡ no_text → (tells ≡ true → l.given ≡ [])
    → Holds tells t l
new_holds tells t l none given =
    subst (λ u. Holds tells u l) (sym none)
    (record { text = (refl, refl, omega arith, blank_none [] refl); link = given })

-- ---- a read

-- what a read shows is one read of the front, of which so many were made
pub reads_front : (tells : Bool) (t t' : Text) (l m : Look) (reads reads' : ℕ) (answer : Got) (into : List ℕ)
    → Shows tells t t' l m answer into → reads' ≡ one_more reads
    → Reads tells (record (shown_through t l) { reads = reads }) (record
    (shown_through t' m) { reads = reads' })
    answer into
reads_front tells t t' l m reads reads' answer into shows counted = record {
  fills = shows.fills;
  once = record { reads = counted; writes = shows.moves.writes };
  calls = record {
    source = shows.moves.calls.source;
    name = shows.moves.calls.name;
    plan = shows.moves.calls.plan;
    carried = shows.moves.calls.carried;
    uploaded = shows.moves.calls.uploaded;
    before = shows.moves.calls.before;
    faults = shows.moves.calls.faults;
    waits = shows.moves.calls.waits;
    agains = shows.moves.calls.agains;
  };
  sure = shows.moves.sure;
  told = λ tell.
      let more = shows.moves.told tell in
      record {
        before = more.before;
        replaced = more.replaced;
        moved = more.moved;
        given = more.given;
        taken = more.taken;
      };
  ends = shows.ends;
}

-- ---- a write

-- what a write to the client is as one to the front, of which so many reads were made
pub writes_front : (tells : Bool) (t : Text) (reads : ℕ) (l m : Look) (answer : Put) (piece : List ℕ)
    → Holds tells t l → Writes tells l m answer piece
    → Writes tells (record (shown_through t l) { reads = reads }) (record
    (shown_through t m) { reads = reads })
    answer piece
writes_front tells t reads l m answer piece holds w = record {
  takes = w.takes;
  once = record { reads = refl; writes = w.once.writes };
  calls = record {
    source = w.calls.source;
    name = w.calls.name;
    plan = w.calls.plan;
    carried = w.calls.carried;
    uploaded = w.calls.uploaded;
    before = w.calls.before;
    faults = w.calls.faults;
    waits = w.calls.waits;
    agains = w.calls.agains;
  };
  sure = w.sure;
  lacks = lacks answer w.lacks;
  told = λ tell.
      let taken = w.told tell in
      record {
        taken = taken.taken;
        within = taken.within;
        given = ap (given_by t.stage t) taken.given;
        left = shown_left t l m taken.given t.stage (holds.link tell) taken.left;
      };
}
  where
    lacks : (a : Put) → Lacks a l m
        → Lacks a (record (shown_through t l) { reads = reads }) (record
        (shown_through t m) { reads = reads })
    lacks (P.Took n) same = tt
    lacks P.Again same = tt
    lacks P.Failed same = tt
    lacks P.NoMemory same = ap (λ k. record (shown_through t k) { reads = reads }) same

-- it leaves the body
pub writes_body : (tells : Bool) (t : Text) (l m : Look) (answer : Put) (piece : List ℕ) → Holds tells t l
    → Writes tells l m answer piece → KeepsBody tells t t l m
writes_body tells t l m answer piece holds w = record {
  stage = stage_stays t.stage;
  given = λ tell. ap (body_given_by t.stage t) (w.told tell).given;
  left = λ tell. body_left_stays t l m (w.told tell).given t.stage (holds.link tell) (w.told tell).left;
  most = λ tell. body_most_stays t l m (w.told tell).given t.stage (holds.link tell) (w.told tell).left;
}

-- and what holds of every front
pub writes_holds : (tells : Bool) (t : Text) (l m : Look) (answer : Put) (piece : List ℕ) → Holds tells t l
    → Writes tells l m answer piece → Holds tells t m
writes_holds tells t l m answer piece holds w = record {
  text = holds.text;
  link = λ tell. link_stays t l m (w.told tell).given t.stage (holds.link tell) (w.told tell).left;
}

-- ---- an upload of the client inside

-- it leaves what holds of every front
pub uploads_holds : (tells : Bool) (t : Text) (l m : Look) → Holds tells t l
    → (tells ≡ true → UploadsClient l m) → Holds tells t m
uploads_holds tells t l m holds uploads =
    holds_same tells t l m (λ tell. (uploads tell).given)
    (λ tell. (same_fronts m.given l.given m.left l.left (ap length (uploads tell).given)
    (uploads tell).all).1) holds

-- ---- what is known of the client's bytes

shown_by : (s : Stage) (t : Text) (l : Look) → HoldsLink s t l
    → IsShown s (all_of l) (given_by s t l.given ++ left_by s t l.left)
    (body_given_by s t l.given ++ body_left_by s t l.left)
shown_by S.Heading t l link = ap (λ g. g ++ l.left) (sym link)
shown_by S.Passing t l link = (
  link.lacks,
  ap (λ g. g ++ (waiting t ++ l.left)) (rest_by_length l.given link.before (waiting t) link.given)
      ∙ sym (append_assoc link.before (waiting t) l.left) ∙ ap (λ g. g ++ l.left) (sym link.given),
)
shown_by (S.Uploading framing) t l link = (
  link.head,
  record {
    begins = record {
      reads = (
        link.has.begins.reads.0,
        ap (λ g. g ++ l.left) link.has.begins.reads.1
            ∙ append_assoc (print_request link.head) (link.handed ++ t.behind) l.left
            ∙ ap (λ b. print_request link.head ++ b) (append_assoc link.handed t.behind l.left
            ∙ ap (λ b. b ++ (t.behind ++ l.left)) (sym (body_is l.given
            (print_request link.head) link.handed t.behind
            t.used link.used_is link.has.begins.reads.1))),
      );
      short = link.has.begins.short;
      few = link.has.begins.few;
    };
    framed = link.has.framed;
  },
  take-append-drop t.shown t.front ∙ link.front_is,
)

pub knows_client : (tells : Bool) (t : Text) (l : Look) → Holds tells t l → tells ≡ true
    → IsShown t.stage (all_of l) (all_of (shown_through t l)) (body_given t l ++ body_left t l)
knows_client tells t l holds tell = shown_by t.stage t l (holds.link tell)

-- until then they await a head
awaits_by : (s : Stage) (t : Text) (l : Look) → s ≡ S.Heading → HoldsText s t → HoldsLink s t l
    → AwaitsHead l.given
awaits_by S.Heading t l heading text link =
    subst AwaitsHead (sym link) (record { none = text.3; short = text.2 })
awaits_by S.Passing t l heading text link = absurd (cc)
awaits_by (S.Uploading framing) t l heading text link = absurd (cc)

pub awaits_client : (tells : Bool) (t : Text) (l : Look) → Holds tells t l → tells ≡ true
    → t.stage ≡ S.Heading → AwaitsHead l.given
awaits_client tells t l holds tell heading =
    awaits_by t.stage t l heading holds.text (holds.link tell)

-- that is what `Strips` says, once it is known what is shown
pub strips_shown : (s : Stage) (c shown body : List ℕ) → s ≢ S.Heading → IsShown s c shown body
    → Strips c shown
strips_shown S.Heading c shown body known is = absurd (known refl)
strips_shown S.Passing c shown body known (lacks, same) = other lacks same
strips_shown (S.Uploading framing) c shown body known (h, has, same) = upload h framing body has same
