-- What a contract sees of a link, one end of a connection, and what a read and a write of it do.
use Rattle.std.specs.Prelude.{◌≡◌, ◌≢◌, ◌↔◌, ℕ, ◌<◌, ◌≤◌, ◌++◌, List, [], ◌∷◌, length, take, ⊤, Bool, true, false, Option, Some, None, IfSome, IsSomeAnd}
use Rattle.ts_link.specs.Counts.{Counted, one_more}
use Rattle.ts_link.specs.LinkAnswers.{got_failed, got_again, count_got, FillsSome, EndsWell, put_failed, put_again, count_put, PutsSome, writes_after}
use Rattle.ts_link.specs.Stalls.{StallsAt}
use Rattle.ts_link.specs.declared.link.Got.{Got}
use Rattle.ts_link.specs.declared.link.Put.{Put}
use Rattle.ts_link.specs.declared.link.Put.TheVariants as P

-- The calls of a link that answer Failed or Again, now and later: reads and writes by their numbers, counted
-- from 1; pairs of a place in its source and the number of reads that wait there; and after how many bytes it
-- leaves, so that each write after them fails.
pub record Plan : Type 0 where
  pub fail_reads : List ℕ
  pub fail_writes : List ℕ
  pub again_reads : List ℕ
  pub again_writes : List ℕ
  pub stalls : List (ℕ × ℕ)
  pub leave : Option ℕ

-- no call fails or waits by its number
pub record IsSurePlan (p : Plan) : Type 0 where
  pub fail_reads : p.fail_reads ≡ []
  pub fail_writes : p.fail_writes ≡ []
  pub again_reads : p.again_reads ≡ []
  pub again_writes : p.again_writes ≡ []

-- What a contract sees of a link. Its bytes are told only by a link that tells.
pub record Look : Type 0 where
  pub given : List ℕ  -- what it gave
  pub left : List ℕ  -- what it may still give
  pub taken : List ℕ  -- what it took
  pub source : List ℕ  -- a list that no call changes: all that it gives, where nothing else is said
  pub name : ℕ
  pub reads : ℕ  -- how many reads were made
  pub writes : ℕ  -- how many writes were made, but for those that lacked memory
  pub faults : ℕ  -- how many answers were Failed
  pub waits : ℕ  -- how many answers were Again
  pub agains : Option ℕ  -- how many Again answers it has left, where it tells
  pub plan : Option Plan  -- where it tells; no call changes it
  pub carried : List ℕ  -- what of the bytes taken an upload wrote
  pub uploaded : Bool  -- no upload is left that it has to move
  pub before : List ℕ × List ℕ  -- what its connection gave and took before this link began

-- all that a link gave and may still give
abbrev pub all_of : Look → List ℕ
all_of l = l.given ++ l.left

-- it tells its plan, and no call fails or waits by its number
abbrev pub IsSure : Look → Type 0
IsSure l = IsSomeAnd l.plan IsSurePlan

-- its plan has a stall
abbrev pub HasStalls : Look → Type 0
HasStalls l = IsSomeAnd l.plan (λ p. p.stalls ≢ [])

-- a stall of its plan stands at the place that it has come to
abbrev pub StallsHere : Look → Type 0
StallsHere l = IsSomeAnd l.plan (λ p. IsSomeAnd l.agains (λ n. StallsAt (length l.given) n p.stalls))

-- it waits nowhere in its source
abbrev pub NeverStalls : Look → Type 0
NeverStalls l = IsSomeAnd l.plan (λ p. p.stalls ≡ [])

-- it never leaves
abbrev pub NeverLeaves : Look → Type 0
NeverLeaves l = IsSomeAnd l.plan (λ p. p.leave ≡ None)

-- it took all that it takes before it leaves
abbrev pub HasLeft : Look → Type 0
HasLeft l = IsSomeAnd l.plan (λ p. p.leave ≡ Some (length l.taken))

-- it took no more than it takes before it leaves
abbrev pub IsWithinLeave : Look → Type 0
IsWithinLeave l = IfSome l.plan (λ p. IfSome p.leave (λ m. length l.taken ≤ m))

-- While nothing was given, another list, never a longer one, may take the place of what may still be given.
abbrev pub MayReplace : List ℕ → List ℕ → List ℕ → Type 0
MayReplace [] before after = length after ≤ length before
MayReplace (b ∷ bs) before after = after ≡ before

-- the number did not rise, where it is told
abbrev pub NoMore : Option ℕ → Option ℕ → Type 0
NoMore None new = ⊤
NoMore (Some n) None = ⊥
NoMore (Some n) (Some m) = m ≤ n

-- the number fell, where it is told
abbrev pub Fewer : Option ℕ → Option ℕ → Type 0
Fewer None new = ⊤
Fewer (Some n) None = ⊥
Fewer (Some n) (Some m) = m < n

-- of the Again answers that are left: an Again lowers their number, and no other answer raises it
abbrev pub AgainsFall : Bool → Option ℕ → Option ℕ → Type 0
AgainsFall true old new = Fewer old new
AgainsFall false old new = NoMore old new

-- what a call leaves as it is, and which answers it counts
pub record Calls (old new : Look) (failed waited : Bool) : Type 0 where
  pub source : new.source ≡ old.source
  pub name : new.name ≡ old.name
  pub plan : new.plan ≡ old.plan
  pub carried : new.carried ≡ old.carried
  pub uploaded : new.uploaded ≡ old.uploaded
  pub before : new.before ≡ old.before
  pub faults : Counted failed old.faults new.faults
  pub waits : Counted waited old.waits new.waits
  pub agains : AgainsFall waited old.agains new.agains

-- it was one read
pub record IsOneRead (old new : Look) : Type 0 where
  pub reads : new.reads ≡ one_more old.reads
  pub writes : new.writes ≡ old.writes

-- it was one write, of this answer
pub record IsOneWrite (answer : Put) (old new : Look) : Type 0 where
  pub reads : new.reads ≡ old.reads
  pub writes : new.writes ≡ writes_after answer old.writes

-- a read of a sure link does not fail, and waits only where its plan has stalls
abbrev pub ReadsSurely : Look → Bool → Bool → Type 0
ReadsSurely old failed waited = IsSure old → (failed ≡ false) × (waited ≡ true → HasStalls old)

-- a read of a sure link waits exactly where a stall stands
abbrev pub WaitsAtStalls : Look → Bool → Type 0
WaitsAtStalls old waited = IsSure old → (waited ≡ true ↔ StallsHere old)

-- and writes on, until it has left
abbrev pub WritesSurely : Look → Bool → Bool → Type 0
WritesSurely old failed waited = IsSure old → (waited ≡ false) × (failed ≡ true → HasLeft old)

-- what a read gave, of a link that tells
pub record GivesMore (old new : Look) (more : List ℕ) : Type 0 where
  pub before : List ℕ  -- what it might give as this call began
  pub replaced : MayReplace old.given old.left before
  pub moved : before ≡ more ++ new.left
  pub given : new.given ≡ old.given ++ more
  pub taken : new.taken ≡ old.taken

-- what a write took, of a link that tells
pub record TakesMore (old new : Look) (more : List ℕ) : Type 0 where
  pub taken : new.taken ≡ old.taken ++ more
  pub within : IsWithinLeave old → IsWithinLeave new
  pub given : new.given ≡ old.given
  pub left : MayReplace old.given old.left new.left

-- want of memory leaves all that is seen of the link
abbrev pub Lacks : Put → Look → Look → Type 0
Lacks P.NoMemory old new = new ≡ old
Lacks _ old new = ⊤

-- one read of a link
pub record Reads (tells : Bool) (old new : Look) (answer : Got) (into : List ℕ) : Type 0 where
  pub fills : FillsSome answer (length into)
  pub once : IsOneRead old new
  pub calls : Calls old new (got_failed answer) (got_again answer)
  pub sure : ReadsSurely old (got_failed answer) (got_again answer)
  pub told : tells ≡ true → GivesMore old new (take (count_got answer) into)
  pub ends : tells ≡ true → EndsWell answer new.left

-- one write to a link
pub record Writes (tells : Bool) (old new : Look) (answer : Put) (piece : List ℕ) : Type 0 where
  pub takes : PutsSome answer (length piece)
  pub once : IsOneWrite answer old new
  pub calls : Calls old new (put_failed answer) (put_again answer)
  pub sure : WritesSurely old (put_failed answer) (put_again answer)
  pub lacks : Lacks answer old new
  pub told : tells ≡ true → TakesMore old new (take (count_put answer) piece)
