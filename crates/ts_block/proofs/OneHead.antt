-- Bytes begin with at most one head, and it is kept in one way.
use Rattle.std.proofs.Common.{◌≡◌, ℕ, List, [], ◌∷◌, ◌++◌, refl, sym, subst, ◌∙◌, Bool, true, false}
use Rattle.httparse.proofs.GrammarLemmas.{request_unique, response_unique}
use Rattle.ts_wire.specs.declared.heads.RequestHead.{RequestHead}
use Rattle.ts_wire.specs.declared.heads.ResponseHead.{ResponseHead}
use Rattle.ts_wire.specs.Heads.{LacksResponse, KeepsRequest, KeepsResponse}
use Rattle.ts_wire.proofs.OneRequest as req
use Rattle.ts_wire.proofs.OneResponse as res
use Rattle.ts_block.specs.Heads.{HasRequest, HasResponse, is_interim, AfterInterims, PassesInterims}
use Rattle.ts_block.specs.Heads.{FinalHead, LacksFinal}

pub one_request : (bytes : List ℕ) (q p : RequestHead) (r s : List ℕ) → HasRequest bytes q r
    → HasRequest bytes p s → (q ≡ p) × (r ≡ s)
one_request bytes q p r s a b =
    let same = request_unique bytes a.parsed b.parsed r s a.begins.reads b.begins.reads in
    (req.one_kept b.parsed q p (subst (λ h. KeepsRequest h q) same.0 a.keeps) b.keeps, same.1)

pub one_response : (bytes : List ℕ) (h k : ResponseHead) (r s : List ℕ) → HasResponse bytes h r
    → HasResponse bytes k s → (h ≡ k) × (r ≡ s)
one_response bytes h k r s a b =
    let same = response_unique bytes a.parsed b.parsed r s a.begins.reads b.begins.reads in
    (res.one_kept b.parsed h k (subst (λ p. KeepsResponse p h) same.0 a.keeps) b.keeps, same.1)

-- ---- interim heads

snoc : (hs : List ResponseHead) (bytes held rest : List ℕ) (h : ResponseHead) → AfterInterims hs bytes held
    → HasResponse held h rest
    → is_interim h.status ≡ true → AfterInterims (hs ++ h ∷ []) bytes rest
snoc [] bytes held rest h is has interim = (
  rest,
  subst (λ b. HasResponse b h rest) (sym is) has,
  interim,
  refl,
)
snoc (k ∷ ks) bytes held rest h (mid, had, was, after) has interim =
    (mid, had, was, snoc ks mid held rest h after has interim)

-- one interim head more
pub next_interim : (bytes held rest : List ℕ) (h : ResponseHead) → PassesInterims bytes held
    → HasResponse held h rest
    → is_interim h.status ≡ true → PassesInterims bytes rest
next_interim bytes held rest h passed has interim =
    record {
      interims = passed.interims ++ h ∷ [];
      after = snoc passed.interims bytes held rest h passed.after
          has interim;
    }

pub true_not_false : (b : Bool) → b ≡ true → b ≡ false → ⊥
true_not_false b is not = absurd (cc)

none_has : (bytes : List ℕ) (h : ResponseHead) (rest : List ℕ) → LacksResponse bytes
    → HasResponse bytes h rest → ⊥
none_has bytes h rest lacks has = lacks has.parsed rest has.begins

lacks_behind : (hs ks : List ResponseHead) (bytes held from rest : List ℕ) (h : ResponseHead)
    → AfterInterims hs bytes held → LacksResponse held
    → AfterInterims ks bytes from → HasResponse from h rest → is_interim h.status ≡ false → ⊥
lacks_behind [] [] bytes held from rest h a lacks b has final =
    none_has held h rest lacks (subst (λ x. HasResponse x h rest) (sym b ∙ a) has)
lacks_behind [] (k ∷ ks) bytes held from rest h a lacks (mid, had, was, after) has final =
    none_has held k mid lacks (subst (λ x. HasResponse x k mid) a had)
lacks_behind (g ∷ gs) [] bytes held from rest h (mid, had, was, after) lacks b has final =
    let same = one_response bytes g h mid rest had (subst (λ x. HasResponse x h rest) (sym b) has) in
    true_not_false (is_interim h.status) (subst (λ (x : ResponseHead). is_interim x.status ≡ true) same.0 was)
    final
lacks_behind (g ∷ gs) (k ∷ ks) bytes held from rest h (mid, had, was, after) lacks (mid', had', was', after')
    has final =
    let same = one_response bytes g k mid mid' had had' in
    lacks_behind gs ks mid held from rest h after lacks (subst (λ x. AfterInterims ks x from) (sym same.1)
    after') has final

-- behind interim heads alone no head is final
pub lacks_final : (bytes held : List ℕ) → PassesInterims bytes held → LacksResponse held → LacksFinal bytes
lacks_final bytes held passed lacks h rest f =
    lacks_behind passed.interims f.passed.interims bytes held f.from rest h passed.after lacks f.passed.after
    f.reads f.final

-- ---- the final head is one

final_behind : (hs ks : List ResponseHead) (bytes from at r s : List ℕ) (h k : ResponseHead)
    → AfterInterims hs bytes from → HasResponse from h r
    → is_interim h.status ≡ false → AfterInterims ks bytes at → HasResponse at k s
    → is_interim k.status ≡ false → (h ≡ k) × (r ≡ s)
final_behind [] [] bytes from at r s h k a has final b had end =
    one_response bytes h k r s (subst (λ x. HasResponse x h r) (sym a) has)
    (subst (λ x. HasResponse x k s) (sym b) had)
final_behind [] (g ∷ gs) bytes from at r s h k a has final (mid, hg, was, after) had end =
    let same = one_response bytes g h mid r hg (subst (λ x. HasResponse x h r) (sym a) has) in
    absurd (true_not_false (is_interim h.status) (subst (λ (x : ResponseHead). is_interim x.status ≡ true)
    same.0 was) final)
final_behind (g ∷ gs) [] bytes from at r s h k (mid, hg, was, after) has final b had end =
    let same = one_response bytes g k mid s hg (subst (λ x. HasResponse x k s) (sym b) had) in
    absurd (true_not_false (is_interim k.status) (subst (λ (x : ResponseHead). is_interim x.status ≡ true)
    same.0 was) end)
final_behind (g ∷ gs) (f ∷ fs) bytes from at r s h k (mid, hg, was, after) has final (mid', hf, was', after')
    had end =
    let same = one_response bytes g f mid mid' hg hf in
    final_behind gs fs mid from at r s h k after has final (subst (λ x. AfterInterims fs x at) (sym same.1)
    after') had end

pub one_final : (bytes : List ℕ) (h k : ResponseHead) (r s : List ℕ) → FinalHead bytes h r
    → FinalHead bytes k s → (h ≡ k) × (r ≡ s)
one_final bytes h k r s a b =
    final_behind a.passed.interims b.passed.interims bytes a.from b.from r s h k a.passed.after a.reads
    a.final b.passed.after b.reads b.final
