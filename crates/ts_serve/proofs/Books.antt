-- How the books of the first thread stay right: as clients come, go on with their next transactions and are
-- handed over, step after step.
use Rattle.std.proofs.Common.{◌≡◌, ◌≢◌, ◌∙◌, ℕ, ◌+◌, ◌<◌, ◌≤◌, inl, inr, cond, List, [], ◌∷◌, ◌++◌, All, Bool}
use Rattle.std.proofs.Common.{true, false, not, length, get_or, set, replicate, is_some, refl, sym, ap, subst}
use Rattle.std.proofs.Common.{arith}
use Rattle.std.specs.List.{sum_by}
use Rattle.std.proofs.lemmas.Bool.Decides.{eqb_tells, nat_tests}
use Rattle.std.proofs.lemmas.List.{get_or-set_other, get_or-set_same}
use Rattle.std.proofs.lemmas.List.Elements.{All-nil, All-push}
use Rattle.ts_link.specs.Counts.{Counted}
use Rattle.ts_slot.specs.Views.{within}
use Rattle.ts_txn.specs.Net.{CountsRise, GivesNobody, IsFreshNet, IsHanded, IsHandedNothing, IsNoted, NetSeen}
use Rattle.ts_txn.specs.Net.{Raised}
use Rattle.ts_txn.specs.declared.net.NetCounts.{NetCounts}
use Rattle.ts_txn.specs.declared.retired.Noted.{Noted}
use Rattle.ts_txn.specs.declared.retired.Retired.{Retired}
use Rattle.ts_serve.specs.Balance.{IsBalanced, IsSameClient, IsSameRow, is_given, lacked_origin, lacks_origin}
use Rattle.ts_serve.specs.Notes.{AreBooks, AreInOrder, AreNoted, HadSessions, KeepsBooks, NotesAndDials}
use Rattle.ts_serve.specs.Notes.{OthersNotes, noted_none, notes_of}
use Rattle.ts_serve.specs.Stepping.{IsStartedIn}
use Rattle.ts_serve.specs.Whose.{first_of, next_of, noted_of}
use Rattle.ts_serve.specs.declared.connection.Connection.{Connection}
use Rattle.ts_serve.specs.declared.connection.Connection.TheVariants.{Accepted, Free}
use Rattle.ts_serve.specs.declared.whose.Whose.{Whose}
use Rattle.ts_serve.proofs.Balance.{balance_anew, balance_fresh, balance_in, balance_noted, balance_out}
use Rattle.ts_serve.proofs.Balance.{balance_row, balance_same, counted_on, counted_one, free_sum}
use Rattle.ts_serve.proofs.Balance.{origins_anew, row_set, sum_push}
use Rattle.ts_serve.proofs.Notes.{all_free, is_free, not_retired, not_twice, notes_beside, notes_push}
use Rattle.ts_serve.proofs.Notes.{one_accepted, one_more, order_push, was_client, was_given}

-- nobody has a number that comes next
next_number : (given : ℕ) → within 1 (given + 1) (given + 1) ≡ 0
next_number given = grind (arith, nat_tests)

-- of fewer clients none that was not given was given before
not_given : (given x : ℕ) → within 1 (given + 1 + 1) x ≡ 0 → within 1 (given + 1) x ≡ 0
not_given given x none = grind (arith, nat_tests)

-- ---- the notes, step after step

module _ {C O : Type 0} (Note : Noted O → Type 0) (misdials : ℕ) where
  -- before anything was given
  pub noted_fresh : (places : ℕ) (net : NetSeen C O) → IsFreshNet net → net.counts.misdials ≡ misdials
      → AreNoted Note misdials (replicate places Free) net
  noted_fresh places net fresh is = record {
    each = subst (All Note) (sym fresh.noted) (All-nil Note);
    known = λ x none. ap (notes_of x) fresh.noted;
    order = λ x. subst (λ (l : List (Noted O)). AreInOrder 1 (notes_of x l)) (sym fresh.noted) tt;
    behind = λ k whose started made at. absurd (is_free whose started made (sym (all_free places k) ∙ at));
    dialed =
        let none : sum_by lacked_origin net.retired ≡ 0 = ap (sum_by lacked_origin) fresh.retired in
        let nothing : sum_by noted_none net.noted ≡ 0 = ap (sum_by noted_none) fresh.noted in
        let free : sum_by lacks_origin (replicate places Free) ≡ 0 = free_sum lacks_origin refl places in
        inl (omega arith);
  }

  -- nobody came
  pub noted_same : (row : List Connection) (old new : NetSeen C O) → new.given ≡ old.given
      → IsHandedNothing old new → old.counts.misdials ≤ new.counts.misdials → AreNoted Note misdials row old
      → AreNoted Note misdials row new
  noted_same row old new given nothing on was = record {
    each = subst (All Note) (sym nothing.noted) was.each;
    known = λ x none.
        let are : is_given new x ≡ is_given old x = ap (λ n. within 1 (n + 1) x) given in
        ap (notes_of x) nothing.noted ∙ was.known x (sym are ∙ none);
    order = λ x. subst (λ (l : List (Noted O)). AreInOrder 1 (notes_of x l)) (sym nothing.noted)
        (was.order x);
    behind = λ k whose started made at.
        ap (λ (l : List (Noted O)). length (notes_of whose.number l) + 1) nothing.noted
        ∙ was.behind k whose started made at;
    dialed =
        let handed : sum_by lacked_origin new.retired ≡ sum_by lacked_origin old.retired =
        ap (sum_by lacked_origin) nothing.retired in
        let noted : sum_by noted_none new.noted ≡ sum_by noted_none old.noted =
        ap (sum_by noted_none) nothing.noted in
        elim was.dialed [ inl few ↦ inl (omega arith) | inr end ↦ inr (omega arith) ];
  }

  -- the row is another one, in which the same is in the row
  pub noted_row : (row again : List Connection) (net : NetSeen C O) → IsSameRow row again
      → AreNoted Note misdials row net → AreNoted Note misdials again net
  noted_row row again net alike was = record {
    each = was.each;
    known = was.known;
    order = was.order;
    behind = λ k whose started made at.
        let before = was_client (get_or row k Free) whose started made
        (subst (IsSameClient (get_or row k Free)) at (alike.clients k)) in
        was.behind k whose before.0 made before.1;
    dialed = let are = alike.origins in
        elim was.dialed [ inl few ↦ inl (omega arith) | inr end ↦ inr end ];
  }

  -- another handler of the same client stands in a place, in a group of its own
  pub noted_anew : (row : List Connection) (k : ℕ) (whose : Whose) (started started' : Bool) (made anew : ℕ)
      (net : NetSeen C O) → k < length row → get_or row k Free ≡ Accepted whose started made
      → AreNoted Note misdials row net → AreNoted Note misdials (set row k (Accepted whose started' anew)) net
  noted_anew row k whose started started' made anew net below found was = record {
    each = was.each;
    known = was.known;
    order = was.order;
    behind = λ j other s m at. elim (eqb_tells j k) [
      | inl same ↦
          let is : Accepted whose started' anew ≡ Accepted other s m =
          sym (get_or-set_same row k (Accepted whose started' anew) Free below)
          ∙ (ap (λ i. get_or (set row k (Accepted whose started' anew)) i Free) (sym same.1) ∙ at) in
          subst (λ (w : Whose). length (notes_of w.number net.noted) + 1 ≡ w.place)
          (one_accepted whose other started' s anew m is).0 (was.behind k whose started made found)
      | inr apart ↦
          was.behind j other s m (sym (get_or-set_other row k j (Accepted whose started' anew) Free apart.1)
          ∙ at)
    ];
    dialed = let are = origins_anew row k whose started started' made anew below found in
        elim was.dialed [ inl few ↦ inl (omega arith) | inr end ↦ inr end ];
  }

  -- nothing was noted of the client that comes next
  pub first_notes : (row : List Connection) (net : NetSeen C O) → AreNoted Note misdials row net
      → (number : ℕ) → number ≡ net.given + 1 → notes_of number net.noted ≡ []
  first_notes row net was number is =
      was.known number (ap (within 1 (net.given + 1)) is ∙ next_number net.given)

  -- a client came, and is in the row for a place that was free, at the first place of its session
  pub noted_in : (row : List Connection) (k number made : ℕ) (has_origin : Bool) (old new : NetSeen C O)
      → k < length row → get_or row k Free ≡ Free → number ≡ old.given + 1 → new.given ≡ old.given + 1
      → IsHandedNothing old new → Counted (not has_origin) old.counts.misdials new.counts.misdials
      → AreNoted Note misdials row old
      → AreNoted Note misdials (set row k (Accepted (first_of number has_origin) false made)) new
  noted_in row k number made has_origin old new below free number_is given nothing counted was = record {
    each = subst (All Note) (sym nothing.noted) was.each;
    known = λ x none.
        let are : is_given new x ≡ within 1 (old.given + 1 + 1) x = ap (λ n. within 1 (n + 1) x) given in
        ap (notes_of x) nothing.noted ∙ was.known x (not_given old.given x (sym are ∙ none));
    order = λ x. subst (λ (l : List (Noted O)). AreInOrder 1 (notes_of x l)) (sym nothing.noted)
        (was.order x);
    behind = λ j whose started m at. elim (eqb_tells j k) [
      | inl same ↦
          let is : Accepted (first_of number has_origin) false made ≡ Accepted whose started m =
          sym (get_or-set_same row k (Accepted (first_of number has_origin) false made) Free below)
          ∙ (ap (λ i. get_or (set row k (Accepted (first_of number has_origin) false made)) i Free)
          (sym same.1) ∙ at) in
          let one = one_accepted (first_of number has_origin) whose false started made m is in
          let mine : number ≡ whose.number = ap (λ (w : Whose). w.number) one.0 in
          let first : 1 ≡ whose.place = ap (λ (w : Whose). w.place) one.0 in
          let empty : length (notes_of whose.number new.noted) ≡ 0 =
          ap (λ (l : List (Noted O)). length (notes_of whose.number l)) nothing.noted
          ∙ ap length (first_notes row old was whose.number (sym mine ∙ number_is)) in
          omega arith
      | inr other ↦
          ap (λ (l : List (Noted O)). length (notes_of whose.number l) + 1) nothing.noted
          ∙ was.behind j whose started m
          (sym (get_or-set_other row k j (Accepted (first_of number has_origin) false made) Free other.1)
          ∙ at)
    ];
    dialed =
        let handed : sum_by lacked_origin new.retired ≡ sum_by lacked_origin old.retired =
        ap (sum_by lacked_origin) nothing.retired in
        let noted : sum_by noted_none new.noted ≡ sum_by noted_none old.noted =
        ap (sum_by noted_none) nothing.noted in
        let connected : sum_by lacks_origin (set row k (Accepted (first_of number has_origin) false made)) + 0
        ≡ sum_by lacks_origin row + cond has_origin 0 1 =
        row_set lacks_origin row k Free (Accepted (first_of number has_origin) false made) below free in
        let on = counted_on (not has_origin) old.counts.misdials new.counts.misdials counted in
        elim was.dialed [
          | inl few ↦ elim (counted_one has_origin old.counts.misdials new.counts.misdials counted) [
            | inl one ↦ inl (omega arith)
            | inr end ↦ inr end
          ]
          | inr end ↦ inr (omega arith)
        ];
  }

  -- what is left of the client of a place was handed over, and the place is free
  pub noted_out : (row : List Connection) (k : ℕ) (whose : Whose) (started : Bool) (made : ℕ)
      (retired : Retired C O) (old new : NetSeen C O) → k < length row
      → get_or row k Free ≡ Accepted whose started made → IsHanded true retired old new
      → is_some retired.parts.origin ≡ whose.has_origin → AreNoted Note misdials row old
      → AreNoted Note misdials (set row k Free) new
  noted_out row k whose started made retired old new below found handed origin_is was = record {
    each = subst (All Note) (sym handed.noted) was.each;
    known = λ x none.
        let are : is_given new x ≡ is_given old x = ap (λ n. within 1 (n + 1) x) handed.given in
        ap (notes_of x) handed.noted ∙ was.known x (sym are ∙ none);
    order = λ x. subst (λ (l : List (Noted O)). AreInOrder 1 (notes_of x l)) (sym handed.noted) (was.order x);
    behind = λ j other s m at. elim (eqb_tells j k) [
      | inl same ↦
          absurd (is_free other s m
          (sym (get_or-set_same row k Free Free below)
          ∙ (ap (λ i. get_or (set row k Free) i Free) (sym same.1) ∙ at)))
      | inr apart ↦
          ap (λ (l : List (Noted O)). length (notes_of other.number l) + 1) handed.noted
          ∙ was.behind j other s m (sym (get_or-set_other row k j Free Free apart.1) ∙ at)
    ];
    dialed =
        let told : new.retired ≡ old.retired ++ retired ∷ [] = handed.told refl in
        let more : sum_by lacked_origin new.retired
        ≡ sum_by lacked_origin old.retired + cond (is_some retired.parts.origin) 0 1 =
        ap (sum_by lacked_origin) told ∙ sum_push lacked_origin old.retired retired in
        let is : cond {A = ℕ} (is_some retired.parts.origin) 0 1 ≡ cond {A = ℕ} whose.has_origin 0 1 =
        ap {B = ℕ} (λ (b : Bool). cond {A = ℕ} b 0 1) origin_is in
        let noted : sum_by noted_none new.noted ≡ sum_by noted_none old.noted =
        ap (sum_by noted_none) handed.noted in
        let less : sum_by lacks_origin (set row k Free) + cond whose.has_origin 0 1
        ≡ sum_by lacks_origin row + 0 =
        row_set lacks_origin row k (Accepted whose started made) Free below found in
        let counts : new.counts.misdials ≡ old.counts.misdials =
        ap (λ (c : NetCounts). c.misdials) handed.counts in
        elim was.dialed [ inl few ↦ inl (omega arith) | inr end ↦ inr (omega arith) ];
  }

-- ---- a transaction was noted, and an origin was dialed for the next one of its client

-- what the two calls leave of the net, one after the other
pub noted_and_dialed : {C O : Type 0} (tells : Bool) (note : Noted O) (has : Bool) (raised : Raised)
    (old mid new : NetSeen C O) → raised.misdials ≡ not has → raised.ends ≡ false → raised.faults ≡ false
    → IsNoted tells note old mid → GivesNobody mid new → CountsRise raised mid new
    → NotesAndDials tells note has old new
noted_and_dialed tells note has raised old mid new misdials ends faults noted nobody counts =
    let still : mid.counts ≡ old.counts = noted.counts in
    record {
      told = λ telling. nobody.handed.noted ∙ noted.told telling;
      notes = nobody.handed.notes ∙ noted.notes;
      handed = nobody.handed.handed ∙ noted.handed;
      retired = nobody.handed.retired ∙ noted.retired;
      asked = record {
        given = nobody.given ∙ noted.given;
        ends = subst (λ b. Counted b mid.counts.ends new.counts.ends) ends counts.ends
            ∙ ap (λ (c : NetCounts). c.ends) still;
        faults = subst (λ b. Counted b mid.counts.faults new.counts.faults) faults counts.faults
            ∙ ap (λ (c : NetCounts). c.faults) still;
      };
      misdials = subst (λ (c : NetCounts). Counted (not has) c.misdials new.counts.misdials) still
          (subst (λ b. Counted b mid.counts.misdials new.counts.misdials) misdials counts.misdials);
    }

module _ {C O : Type 0} (note : Noted O) (has : Bool) (old new : NetSeen C O)
    (goes : NotesAndDials true note has old new) where
  -- the client has one note more
  pub notes_here : notes_of note.number new.noted ≡ notes_of note.number old.noted ++ note ∷ []
  notes_here = ap (notes_of note.number) (goes.told refl) ∙ notes_push note.number old.noted note refl

  -- and no other one has
  pub notes_there : OthersNotes note.number old new
  notes_there x other =
      ap (notes_of x) (goes.told refl) ∙ notes_beside x old.noted note (λ is. other (sym is))

module _ {C O : Type 0} (Note : Noted O → Type 0) (misdials : ℕ) (row : List Connection) (k made anew : ℕ)
    (note : Noted O) (has : Bool) (old new : NetSeen C O) (below : k < length row)
    (found : get_or row k Free ≡ Accepted (noted_of note) true made)
    (goes : NotesAndDials true note has old new) where
  -- the row with the next transaction of the client
  abbrev pub row_on : List Connection
  row_on = set row k (Accepted (next_of note has) false anew)

  module _ (Done : Retired C O → Type 0) (balance : IsBalanced Done misdials row old)
      (was : AreNoted Note misdials row old) where
    given_same : (x : ℕ) → is_given new x ≡ is_given old x
    given_same x = ap (λ n. within 1 (n + 1) x) goes.asked.given

    -- a client that was not given is another one
    other_number : (x : ℕ) → is_given new x ≡ 0 → x ≢ note.number
    other_number x none is =
        let came = was_given Done misdials row old balance k (noted_of note) true made found in
        let here : is_given old x ≡ 1 = subst (λ n. is_given old n ≡ 1) (sym is) came in
        let given = given_same x in absurd (omega arith)

    place_is : note.place ≡ 1 + length (notes_of note.number old.noted)
    place_is = let now = was.behind k (noted_of note) true made found in omega arith

    order_on : (x : ℕ) → AreInOrder 1 (notes_of x new.noted)
    order_on x = elim (eqb_tells note.number x) [
      | inl same ↦
          subst (λ y. AreInOrder 1 (notes_of y new.noted)) same.1
          (subst (AreInOrder 1) (sym (notes_here note has old new goes))
          (order_push 1 (notes_of note.number old.noted) note (was.order note.number) place_is))
      | inr other ↦ subst (AreInOrder 1) (sym (notes_there note has old new goes x (λ is. other.1 (sym is))))
          (was.order x)
    ]

    behind_here : (whose : Whose) (started : Bool) (m : ℕ) → get_or row_on k Free ≡ Accepted whose started m
        → length (notes_of whose.number new.noted) + 1 ≡ whose.place
    behind_here whose started m at =
        let is : Accepted (next_of note has) false anew ≡ Accepted whose started m =
        sym (get_or-set_same row k (Accepted (next_of note has) false anew) Free below) ∙ at in
        let one = one_accepted (next_of note has) whose false started anew m is in
        let mine : note.number ≡ whose.number = ap (λ (w : Whose). w.number) one.0 in
        let next : note.place + 1 ≡ whose.place = ap (λ (w : Whose). w.place) one.0 in
        let long : length (notes_of whose.number new.noted) ≡ length (notes_of note.number old.noted) + 1 =
        subst (λ y. length (notes_of y new.noted) ≡ length (notes_of note.number old.noted) + 1) mine
        (ap length (notes_here note has old new goes) ∙ one_more (notes_of note.number old.noted) note) in
        let here = place_is in omega arith

    behind_on : (j : ℕ) (whose : Whose) (started : Bool) (m : ℕ)
        → get_or row_on j Free ≡ Accepted whose started m
        → length (notes_of whose.number new.noted) + 1 ≡ whose.place
    behind_on j whose started m at = elim (eqb_tells j k) [
      | inl same ↦
          behind_here whose started m
          (subst (λ i. get_or row_on i Free ≡ Accepted whose started m) same.1 at)
      | inr other ↦
          let before : get_or row j Free ≡ Accepted whose started m =
          sym (get_or-set_other row k j (Accepted (next_of note has) false anew) Free other.1) ∙ at in
          let apart : whose.number ≢ note.number =
          not_twice Done misdials row old balance j k whose (noted_of note) started true m made other.1 before
          found in
          ap (λ (l : List (Noted O)). length l + 1) (notes_there note has old new goes whose.number apart)
          ∙ was.behind j whose started m before
    ]

    pub noted_on : Note note → AreNoted Note misdials row_on new
    noted_on holds = record {
      each = subst (All Note) (sym (goes.told refl)) (All-push Note old.noted note was.each holds);
      known = λ x none.
          notes_there note has old new goes x (other_number x none) ∙ was.known x (sym (given_same x) ∙ none);
      order = order_on;
      behind = behind_on;
      dialed =
          let handed : sum_by lacked_origin new.retired ≡ sum_by lacked_origin old.retired =
          ap (sum_by lacked_origin) goes.retired in
          let more : sum_by noted_none new.noted
          ≡ sum_by noted_none old.noted + cond (is_some note.origin) 0 1 =
          ap (sum_by noted_none) (goes.told refl) ∙ sum_push noted_none old.noted note in
          let next : sum_by lacks_origin row_on + cond (is_some note.origin) 0 1
          ≡ sum_by lacks_origin row + cond has 0 1 =
          row_set lacks_origin row k (Accepted (noted_of note) true made)
          (Accepted (next_of note has) false anew)
          below found in
          let on = counted_on (not has) old.counts.misdials new.counts.misdials goes.misdials in
          elim was.dialed [
            | inl few ↦ elim (counted_one has old.counts.misdials new.counts.misdials goes.misdials) [
              | inl one ↦ inl (omega arith)
              | inr end ↦ inr end
            ]
            | inr end ↦ inr (omega arith)
          ];
    }

-- ---- the books, step after step

module _ {C O : Type 0} (Done : Retired C O → Type 0) (Note : Noted O → Type 0) (misdials : ℕ) where
  pub books_fresh : (places : ℕ) (net : NetSeen C O) → IsFreshNet net → net.counts.misdials ≡ misdials
      → AreBooks Done Note misdials (replicate places Free) net
  books_fresh places net fresh is = record {
    balance = balance_fresh Done misdials places net fresh is;
    notes = noted_fresh Note misdials places net fresh is;
  }

  pub books_same : (row : List Connection) (old new : NetSeen C O) → new.given ≡ old.given
      → IsHandedNothing old new → old.counts.misdials ≤ new.counts.misdials
      → AreBooks Done Note misdials row old
      → AreBooks Done Note misdials row new
  books_same row old new given nothing on books = record {
    balance = balance_same Done misdials row old new given nothing on books.balance;
    notes = noted_same Note misdials row old new given nothing on books.notes;
  }

  pub books_row : (row again : List Connection) (net : NetSeen C O) → IsSameRow row again
      → AreBooks Done Note misdials row net → AreBooks Done Note misdials again net
  books_row row again net alike books = record {
    balance = balance_row Done misdials row again net alike books.balance;
    notes = noted_row Note misdials row again net alike books.notes;
  }

  pub books_anew : (row : List Connection) (k : ℕ) (whose : Whose) (started started' : Bool) (made anew : ℕ)
      (net : NetSeen C O) → k < length row → get_or row k Free ≡ Accepted whose started made
      → AreBooks Done Note misdials row net
      → AreBooks Done Note misdials (set row k (Accepted whose started' anew)) net
  books_anew row k whose started started' made anew net below found books = record {
    balance = balance_anew row k whose started started' made anew below found Done misdials net books.balance;
    notes = noted_anew Note misdials row k whose started started' made anew net below found books.notes;
  }

  pub books_in : (row : List Connection) (k number made : ℕ) (has_origin : Bool) (old new : NetSeen C O)
      → k < length row → get_or row k Free ≡ Free → number ≡ old.given + 1 → new.given ≡ old.given + 1
      → IsHandedNothing old new → Counted (not has_origin) old.counts.misdials new.counts.misdials
      → AreBooks Done Note misdials row old
      → AreBooks Done Note misdials (set row k (Accepted (first_of number has_origin) false made)) new
  books_in row k number made has_origin old new below free number_is given nothing counted books = record {
    balance = balance_in Done misdials row k number made has_origin old new below free number_is given nothing
        counted books.balance;
    notes = noted_in Note misdials row k number made has_origin old new below free number_is given nothing
        counted
        books.notes;
  }

  pub books_out : (row : List Connection) (k : ℕ) (whose : Whose) (started : Bool) (made : ℕ)
      (retired : Retired C O) (old new : NetSeen C O) → k < length row
      → get_or row k Free ≡ Accepted whose started made → IsHanded true retired old new
      → retired.parts.number ≡ whose.number → is_some retired.parts.origin ≡ whose.has_origin → Done retired
      → AreBooks Done Note misdials row old → AreBooks Done Note misdials (set row k Free) new
  books_out row k whose started made retired old new below found handed number_is origin_is done
      books = record {
        balance = balance_out Done misdials row k whose started made retired old new below found handed number_is
            origin_is done books.balance;
        notes = noted_out Note misdials row k whose started made retired old new below found handed origin_is
            books.notes;
      }

  pub books_on : (row : List Connection) (k made anew : ℕ) (note : Noted O) (has : Bool) (raised : Raised)
      (old mid new : NetSeen C O) → k < length row → get_or row k Free ≡ Accepted (noted_of note) true made
      → raised.misdials ≡ not has → raised.ends ≡ false → raised.faults ≡ false → IsNoted true note old mid
      → GivesNobody mid new → CountsRise raised mid new → Note note → AreBooks Done Note misdials row old
      → AreBooks Done Note misdials (set row k (Accepted (next_of note has) false anew)) new
  books_on row k made anew note has raised old mid new below found misdials_are ends faults noted nobody
      counts
      holds books =
      let counted : Counted (not has) mid.counts.misdials new.counts.misdials =
      subst (λ b. Counted b mid.counts.misdials new.counts.misdials) misdials_are counts.misdials in
      let goes = noted_and_dialed true note has raised old mid new misdials_are ends faults noted nobody
      counts in
      record {
        balance = balance_noted row k made anew note has old mid new below found Done misdials noted nobody
            counted
            books.balance;
        notes = noted_on Note misdials row k made anew note has old new below found goes Done books.balance
            books.notes holds;
      }

-- a client came, and an origin was dialed for it
pub books_dialed : {C O : Type 0} (Done : Retired C O → Type 0) (Note : Noted O → Type 0) (misdials : ℕ)
    (row row' : List Connection) (k number made : ℕ) (has : Bool) (whose : Whose) (old mid new : NetSeen C O)
    → k < length row → get_or row k Free ≡ Free → number ≡ old.given + 1 → mid.given ≡ old.given + 1
    → IsHandedNothing old mid → Counted false old.counts.misdials mid.counts.misdials → GivesNobody mid new
    → Counted (not has) mid.counts.misdials new.counts.misdials → row' ≡ set row k (Accepted whose false made)
    → whose ≡ first_of number has → AreBooks Done Note misdials row old → AreBooks Done Note misdials row' new
books_dialed Done Note misdials row row' k number made has whose old mid new below free number_is given nothing
    still nobody counted is whose_is books =
    subst (λ (r : List Connection). AreBooks Done Note misdials r new)
    (sym (is ∙ ap (λ w. set row k (Accepted w false made)) whose_is))
    (books_in Done Note misdials row k number made has old new below free number_is (nobody.given ∙ given)
    (record {
      handed = nobody.handed.handed ∙ nothing.handed;
      retired = nobody.handed.retired ∙ nothing.retired;
      notes = nobody.handed.notes ∙ nothing.notes;
      noted = nobody.handed.noted ∙ nothing.noted;
    })
    (subst (λ n. Counted (not has) n new.counts.misdials) still counted) books)

-- where the net tells, the books stay right of places of any terms of which this is a note
pub keeps_books : {C O A : Type 0} (tells : Bool) (Done : A → Retired C O → Type 0)
    (Note : A → Noted O → Type 0)
    (row again : List Connection) (k anew : ℕ) (note : Noted O) (has : Bool) (raised : Raised)
    (old mid new : NetSeen C O) → IsStartedIn k (noted_of note) row → raised.misdials ≡ not has
    → raised.ends ≡ false → raised.faults ≡ false → IsNoted tells note old mid → GivesNobody mid new
    → CountsRise raised mid new → again ≡ set row k (Accepted (next_of note has) false anew)
    → KeepsBooks tells Done Note (λ terms. Note terms note) row old again new
keeps_books tells Done Note row again k anew note has raised old mid new started misdials_are ends faults
    noted nobody
    counts is telling terms holds misdials books =
    subst (λ (r : List Connection). AreBooks (Done terms) (Note terms) misdials r new) (sym is)
    (books_on (Done terms) (Note terms) misdials row k started.made anew note has raised old mid new
    started.below started.accepted misdials_are ends faults
    (subst (λ b. IsNoted b note old mid) telling noted) nobody counts holds books)

-- ---- the sessions of clients that were handed over

module _ {C O : Type 0} (Session : List (Noted O) → Retired C O → Type 0) where
  pub sessions_fresh : (net : NetSeen C O) → IsFreshNet net → HadSessions Session net
  sessions_fresh net fresh =
      subst (All (λ (r : Retired C O). Session (notes_of r.parts.number net.noted) r)) (sym fresh.retired)
      (All-nil (λ (r : Retired C O). Session (notes_of r.parts.number net.noted) r))

  -- somebody came, or nobody
  pub sessions_same : (old new : NetSeen C O) → IsHandedNothing old new → HadSessions Session old
      → HadSessions Session new
  sessions_same old new nothing had =
      subst (All (λ (r : Retired C O). Session (notes_of r.parts.number new.noted) r)) (sym nothing.retired)
      (λ i d low.
      subst (λ (l : List (Noted O)).
      Session (notes_of (get_or old.retired i d).parts.number l) (get_or old.retired i d)) (sym nothing.noted)
      (had i d low))

  -- a transaction was noted of a client that is in the row, so that none that was handed over has more notes
  pub sessions_on : (Done : Retired C O → Type 0) (misdials : ℕ) (row : List Connection) (k : ℕ)
      (note : Noted O) (has : Bool) (old new : NetSeen C O)
      → IsStartedIn k (noted_of note) row → NotesAndDials true note has old new
      → IsBalanced Done misdials row old → HadSessions Session old → HadSessions Session new
  sessions_on Done misdials row k note has old new started goes balance had =
      let others = not_retired Done misdials row old balance k (noted_of note) true started.made
      started.accepted in
      subst (All (λ (r : Retired C O). Session (notes_of r.parts.number new.noted) r)) (sym goes.retired)
      (λ i d low.
      let same : notes_of (get_or old.retired i d).parts.number new.noted
      ≡ notes_of (get_or old.retired i d).parts.number old.noted =
      notes_there note has old new goes (get_or old.retired i d).parts.number (others i d low) in
      subst (λ (l : List (Noted O)). Session l (get_or old.retired i d)) (sym same) (had i d low))

  -- what is left of a client was handed over, and comes behind its notes
  pub sessions_out : (retired : Retired C O) (old new : NetSeen C O) → IsHanded true retired old new
      → Session (notes_of retired.parts.number old.noted) retired → HadSessions Session old
      → HadSessions Session new
  sessions_out retired old new handed session had =
      let told : new.retired ≡ old.retired ++ retired ∷ [] = handed.told refl in
      let still : All (λ (r : Retired C O). Session (notes_of r.parts.number new.noted) r) old.retired =
      λ i d low.
      subst (λ (l : List (Noted O)).
      Session (notes_of (get_or old.retired i d).parts.number l) (get_or old.retired i d)) (sym handed.noted)
      (had i d low) in
      subst (All (λ (r : Retired C O). Session (notes_of r.parts.number new.noted) r)) (sym told)
      (All-push (λ (r : Retired C O). Session (notes_of r.parts.number new.noted) r) old.retired retired still
      (subst (λ (l : List (Noted O)). Session (notes_of retired.parts.number l) retired) (sym handed.noted)
      session))
