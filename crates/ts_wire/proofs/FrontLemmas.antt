-- What the parser's answer on the first bytes says of all of them, for a head of either kind.
use Rattle.std.proofs.Common.{◌≡◌, ℕ, ◌-◌, ◌<◌, ◌≤◌, List, [], ◌++◌, length, take, drop, sym, ap, subst, ◌∙◌, arith, inl, inr}
use Rattle.std.proofs.lemmas.List.{take-append-le, take_all, append-nil, length-take, length-take-le, take_at, drop_at}
use Rattle.ts_lists.proofs.Fronts.{front_of_front, take_past}
use Rattle.httparse.specs.declared.spans.HeaderSpan.{HeaderSpan}
use Rattle.httparse.specs.Grammar.{Field}
use Rattle.httparse.specs.Spans.{AreFieldsAt, IsSectionWithin}
use Rattle.ts_wire.specs.Limits.{head_limit, field_limit}
use Rattle.ts_wire.specs.Heads.{BeginsWith, IsHeadOf, LacksHead, Awaits, IsTooLong}
use Rattle.ts_wire.proofs.HeadLemmas.{front_and_more, few_fields}

-- the head's own bytes hold the section that is in those with what follows
pub section_own : (front text : List ℕ) (hs : List HeaderSpan) (len count : ℕ) → text ≡ take len front
    → IsSectionWithin front hs len count → IsSectionWithin text hs len count
section_own front text hs len count own within = record {
  len_fits = omega (arith, ap length own, length-take-le len front within.len_fits);
  count_fits = within.count_fits;
  headers_fit = within.headers_fit;
}

-- and nothing follows the head in them
pub own_rest : (p front : List ℕ) (n : ℕ) → n ≡ length p → front ≡ p ++ drop n front
    → take n front ≡ p ++ drop n (take n front)
own_rest p front n len is =
    let whole : take n front ≡ p ++ [] =
    ap (take n) is ∙ take_at p (drop n front) n (sym len) ∙ sym (append-nil p) in
    whole ∙ ap (λ l. p ++ l) (sym (ap (drop n) whole ∙ drop_at p [] n (sym len)))

-- where a head may have more bytes than there are, the front is all of them
pub awaits_more : {HasNone MayBecome : List ℕ → Type 0} (bytes front : List ℕ) → front ≡ take head_limit bytes
    → length bytes < head_limit → HasNone front → MayBecome front → Awaits HasNone MayBecome bytes
awaits_more {HasNone = HasNone} {MayBecome = MayBecome} bytes front is short none may =
    let same : front ≡ bytes = is ∙ take_all head_limit bytes (omega arith) in
    record { short = short; none = subst HasNone same none; may = subst MayBecome same may }

-- what holds of the front whatever follows it holds of the bytes whatever follows them
pub never_more : (P : List ℕ → Type 0) (bytes front : List ℕ) → front ≡ take head_limit bytes
    → ((more : List ℕ) → P (front ++ more)) → (more : List ℕ) → P (bytes ++ more)
never_more P bytes front is never more =
    subst P (sym (front_and_more head_limit bytes front more is)) (never (drop head_limit bytes ++ more))

-- a head of the kind at the front, as the grammar reads it
abbrev Reads : {H : Type 0} → (H → Type 0) → (H → List ℕ) → List ℕ → H → List ℕ → Type 0
Reads Good print bytes h rest = Good h × (bytes ≡ print h ++ rest)

-- no prefix is a head of the kind
abbrev HasNone : {H : Type 0} → (H → Type 0) → (H → List ℕ) → List ℕ → Type 0
HasNone {H = H} Good print bytes = (h : H) (rest : List ℕ) → Reads Good print bytes h rest → ⊥

-- a kind of head: what makes one good, how it is printed, and its field lines
module _ {H : Type 0} {Good : H → Type 0} {print : H → List ℕ} {lines : H → List Field} where
  -- the head whose spans these are is the one that the bytes begin with
  pub found : {K : Type 0} {Keeps : H → K → Type 0} (bytes front : List ℕ) (hs : List HeaderSpan)
      (len count : ℕ) (head : K)
      → front ≡ take head_limit bytes → length hs ≡ field_limit → IsSectionWithin front hs len count
      → (h : H) → Reads Good print front h (drop len front) → len ≡ length (print h) → 0 < length (print h)
      → AreFieldsAt front hs count (lines h)
      → Keeps h head → IsHeadOf Good print lines Keeps bytes head len
  found bytes front hs len count head is room within h reads len_is some fields keeps =
      let begins = front_of_front head_limit bytes front (print h) (drop len front) is reads.1 in
      let rest : bytes ≡ print h ++ drop len bytes =
      subst (λ n. bytes ≡ print h ++ drop n bytes) (sym len_is) begins in
      let short : length front ≤ head_limit = omega (arith, ap length is, length-take head_limit bytes) in
      let small : length front ≤ length bytes = omega (arith, ap length is, length-take head_limit bytes) in
      let fits = within.len_fits in
      record {
        parsed = h;
        begins = record {
          reads = (reads.0, rest);
          short = omega (arith, len_is);
          few = omega (arith, few_fields hs count front (lines h) fields);
        };
        keeps = keeps;
        len = len_is;
        some = omega (arith, len_is, some);
        within = omega arith;
      }

  pub lacks_head : (bytes front : List ℕ) → front ≡ take head_limit bytes → HasNone Good print front
      → LacksHead (BeginsWith Good print lines) bytes
  lacks_head bytes front is none h rest begins =
      none h (take (head_limit - length (print h)) rest)
      (begins.reads.0, is ∙ take_past head_limit bytes (print h) rest begins.reads.1 begins.short)

  -- where all the bytes of a head are there, what follows changes nothing
  pub full_of_none : {Exceeds : ℕ → List ℕ → Type 0} (bytes front : List ℕ) → front ≡ take head_limit bytes
      → head_limit ≤ length bytes → HasNone Good print front
      → IsTooLong (LacksHead (BeginsWith Good print lines)) Exceeds bytes
  full_of_none bytes front is full none = record {
    lacks = λ more. lacks_head (bytes ++ more) front (is
        ∙ sym (take-append-le head_limit bytes more full)) none;
    why = inl full;
  }

  -- each head that they begin has too many fields
  pub overflows : (bytes front : List ℕ) → front ≡ take head_limit bytes
      → ((more : List ℕ) (h : H) (rest : List ℕ) → Reads Good print (front ++ more) h rest
      → field_limit < length (lines h)) → (more : List ℕ)
      → LacksHead (BeginsWith Good print lines) (bytes ++ more)
  overflows bytes front is over more h rest begins =
      let many = over (drop head_limit bytes ++ more) h rest
      (begins.reads.0, sym (front_and_more head_limit bytes front more is) ∙ begins.reads.1) in
      absurd (omega (arith, many, begins.few))

  pub too_many : {Exceeds : ℕ → List ℕ → Type 0} (bytes front : List ℕ) → front ≡ take head_limit bytes
      → ((more : List ℕ) (h : H) (rest : List ℕ) → Reads Good print (front ++ more) h rest
      → field_limit < length (lines h))
      → Exceeds field_limit front → IsTooLong (LacksHead (BeginsWith Good print lines)) Exceeds bytes
  too_many {Exceeds = Exceeds} bytes front is over exceeds =
      record { lacks = overflows bytes front is over; why = inr (subst (Exceeds field_limit) is exceeds) }

  -- what is lacking whatever follows is lacking now
  pub lacks_now : (bytes : List ℕ)
      → ((more : List ℕ) → LacksHead (BeginsWith Good print lines) (bytes ++ more))
      → LacksHead (BeginsWith Good print lines) bytes
  lacks_now bytes lacks = subst (LacksHead (BeginsWith Good print lines)) (append-nil bytes) (lacks [])

  pub never_lacks : (bytes : List ℕ) → ((more : List ℕ) → HasNone Good print (bytes ++ more))
      → LacksHead (BeginsWith Good print lines) bytes
  never_lacks bytes never h rest begins = never [] h rest (begins.reads.0, append-nil bytes ∙ begins.reads.1)
