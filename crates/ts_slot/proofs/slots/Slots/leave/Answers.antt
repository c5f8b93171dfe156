-- The group's slot comes first, the value is put into it, and a step on its word frees it.
use Rattle.std.proofs.Common.{◌≡◌, ◌<◌, ◌≤◌, ◌⊎◌, ℕ, sym, refl, ap, ◌∙◌, subst, arith, ⊎_elim}
use Rattle.std.specs.Prelude.{None}
use Rattle.ts_slot.specs.Views.{freed, worn_out}
use Rattle.ts_slot.specs.Words.{GivesUp}
use Rattle.ts_slot.proofs.slots.Slots.leave.Goals as goal
use Rattle.ts_slot.proofs.Steps.{frees, wears, below_is}
use Rattle.ts_slot.proofs.Bring.{fetches}
use Rattle.ts_slot.proofs.Leaves.{gives_up, none_there, fits_low, fetched, others, puts, worn_end, freed_end, names_are, free_from_is, free_to_is, share_is, tags_are, held_is, view_is, carries_are}
use Rattle.ts_slot.specs.Boxed.{in_box, fits_in_box}

pub load-requires : goal.load-requires
load-requires g c = (
  c.requires.seat.0,
  (let l = fits_low (fits_in_box g.V.Slotted.fits) c.args.self.now.table.shared.key.0.value.items
      c.args.turn.group
      c.args.turn.boxed c.requires.value.fit in let n = c.args.self.now.named in let w =
      c.args.self.now.sized.0 in omega arith),
  fetches (fits_in_box g.V.Slotted.fits) (in_box g.V.Slotted.stamp)
      (in_box g.V.Slotted.trace) g.V.Slotted.follows
      c.args.self.now.table.shared.key.0.value.items
      c.args.self.now.table.shared.table_id.slots c.args.seat.now.place.id c.args.turn.group
      c.args.seat.now.place.me c.args.seat.now.alive c.args.seat.now.carries
      c.args.turn.number (g.V.Slotted.trace c.args.turn.found.value) c.requires.held,
)

pub exchange-gone-requires : goal.exchange-gone-requires
exchange-gone-requires g c =
    let first = c.load.ensures.2 c.args.turn.number (g.V.Slotted.trace c.args.turn.found.value)
    c.requires.held in (
      c.load.ensures.0 ∙ c.requires.seat.0,
      (None, below_is c.load.new.seat.me.1 _ (c.args.turn.group, None) (ap (λ m. m.1) first)),
    )

pub unreachable-requires : goal.unreachable-requires
unreachable-requires g c =
    let first = c.load.ensures.2 c.args.turn.number (g.V.Slotted.trace c.args.turn.found.value)
    c.requires.held in
    none_there c.args.turn.group c.exchange-gone.result c.in_default.field-0 c.load.new.seat.me.1 _ _
    (ap (λ m. m.1) first) c.exchange-gone.ensures.2 c.in_default.is

-- the stamp is at most the turn's number
stamp_low : (a b n : ℕ) → b < n → (a ≡ b) ⊎ (a ≡ n) → a ≤ n
stamp_low a b n less is = ⊎_elim (λ (e : a ≡ b). omega arith) (λ (e : a ≡ n). omega arith) is

pub fetch_add-requires : goal.fetch_add-requires
fetch_add-requires g c =
    let tags = c.args.self.now.table.shared.key.0.value.items in
    let k = c.args.turn.group in
    let t = c.args.turn.number in
    let trace = g.V.Slotted.trace c.args.turn.found.value in
    let v = c.args.seat.now.place.me.0 in
    let first = c.load.ensures.2 t trace c.requires.held in (
      c.exchange-gone.ensures.0 ∙ c.load.ensures.0 ∙ c.requires.seat.0,
      (let l = fits_low (fits_in_box g.V.Slotted.fits) tags k c.args.turn.boxed
          c.requires.value.fit in let n = c.args.self.now.named in let w = c.args.self.now.sized.0 in omega
          arith),
      wears (fits_in_box g.V.Slotted.fits) (in_box g.V.Slotted.stamp)
          (in_box g.V.Slotted.trace) g.V.Slotted.follows
          tags
          c.args.self.now.table.shared.table_id.slots c.exchange-gone.new.seat.id k t trace c.args.turn.boxed
          (fetched k t trace v) (others k t trace v) c.exchange-gone.new.seat.me
          (puts k t trace v c.args.turn.boxed c.load.new.seat.me c.exchange-gone.new.seat.me first
          c.exchange-gone.ensures.3)
          (fits_low (fits_in_box g.V.Slotted.fits) tags k c.args.turn.boxed
          c.requires.value.fit) c.args.seat.now.alive refl c.requires.value.fit
          (stamp_low _ _ t c.args.turn.young c.requires.value.stamped) c.requires.value.later
          c.if-number.true,
    )

pub fetch_add-requires-2 : goal.fetch_add-requires-2
fetch_add-requires-2 g c =
    let tags = c.args.self.now.table.shared.key.0.value.items in
    let k = c.args.turn.group in
    let t = c.args.turn.number in
    let trace = g.V.Slotted.trace c.args.turn.found.value in
    let v = c.args.seat.now.place.me.0 in
    let first = c.load.ensures.2 t trace c.requires.held in
    let most = c.args.turn.bounded in
    let not_last = c.if-number.false in (
      c.exchange-gone.ensures.0 ∙ c.load.ensures.0 ∙ c.requires.seat.0,
      (let l = fits_low (fits_in_box g.V.Slotted.fits) tags k c.args.turn.boxed
          c.requires.value.fit in let n = c.args.self.now.named in let w = c.args.self.now.sized.0 in omega
          arith),
      frees (fits_in_box g.V.Slotted.fits) (in_box g.V.Slotted.stamp)
          (in_box g.V.Slotted.trace) g.V.Slotted.follows
          tags
          g.V.Slotted.follows_itself g.V.Slotted.follows_on
          c.args.self.now.table.shared.table_id.slots c.exchange-gone.new.seat.id k t trace c.args.turn.boxed
          (fetched k t trace v) (others k t trace v) c.exchange-gone.new.seat.me
          (puts k t trace v c.args.turn.boxed c.load.new.seat.me c.exchange-gone.new.seat.me first
          c.exchange-gone.ensures.3)
          (fits_low (fits_in_box g.V.Slotted.fits) tags k c.args.turn.boxed
          c.requires.value.fit) c.args.seat.now.alive refl c.requires.value.fit
          (stamp_low _ _ t c.args.turn.young c.requires.value.stamped) c.requires.value.later (omega arith),
    )

pub invariant_of-seat : goal.invariant_of-seat
invariant_of-seat g c =
    let k = c.args.turn.group in
    let t = c.args.turn.number in
    let trace = g.V.Slotted.trace c.args.turn.found.value in
    let v = c.args.seat.now.place.me.0 in
    let end = worn_end k t trace v c.args.turn.boxed c.args.self.now.table.shared.table_id.slots
    c.load.new.seat.me c.exchange-gone.new.seat.me c.fetch_add.new.seat.me c.fetch_add.result
    (c.load.ensures.2 t trace c.requires.held) c.exchange-gone.ensures.3 c.fetch_add.ensures.2 in
    record {
      named = (
        names_are c.fetch_add.new.seat.me (worn_out k v) (others k t trace v) end ∙
            c.args.seat.now.named.0,
        free_from_is c.fetch_add.new.seat.me (worn_out k v) (others k t trace v)
            end ∙ c.args.seat.now.named.1,
      );
      alive = let s = share_is c.fetch_add.new.seat.me (worn_out k v) (others k t trace v) end in let a =
          c.args.seat.now.alive in omega arith;
      small = let f = free_to_is c.fetch_add.new.seat.me (worn_out k v) (others k t trace v) end in let a =
          c.args.seat.now.small in omega arith;
      carries = carries_are c.fetch_add.new.seat.me (worn_out k v) (others k t trace v) end refl;
    }

pub returns-then-number-clause-seat : goal.returns-then-number-clause-seat
returns-then-number-clause-seat g c =
    let k = c.args.turn.group in
    let t = c.args.turn.number in
    let trace = g.V.Slotted.trace c.args.turn.found.value in
    let v = c.args.seat.now.place.me.0 in
    let end = worn_end k t trace v c.args.turn.boxed c.args.self.now.table.shared.table_id.slots
    c.load.new.seat.me c.exchange-gone.new.seat.me c.fetch_add.new.seat.me c.fetch_add.result
    (c.load.ensures.2 t trace c.requires.held) c.exchange-gone.ensures.3 c.fetch_add.ensures.2 in (
      c.fetch_add.ensures.0 ∙ c.exchange-gone.ensures.0 ∙ c.load.ensures.0 ∙ c.requires.seat.0,
      tags_are
          c.fetch_add.new.seat.me (worn_out k v) (others k t trace v) end ∙ c.requires.seat.1,
    )

pub returns-then-number-clause-worn : goal.returns-then-number-clause-worn
returns-then-number-clause-worn g c _ =
    let k = c.args.turn.group in
    let t = c.args.turn.number in
    let trace = g.V.Slotted.trace c.args.turn.found.value in
    let v = c.args.seat.now.place.me.0 in
    let end = worn_end k t trace v c.args.turn.boxed c.args.self.now.table.shared.table_id.slots
    c.load.new.seat.me c.exchange-gone.new.seat.me c.fetch_add.new.seat.me c.fetch_add.result
    (c.load.ensures.2 t trace c.requires.held) c.exchange-gone.ensures.3 c.fetch_add.ensures.2 in
    record {
      number = c.if-number.true;
      is = view_is c.fetch_add.new.seat.me (worn_out k v)
          (others k t trace v) end;
    }

pub returns-then-number-clause-others : goal.returns-then-number-clause-others
returns-then-number-clause-others g c =
    let k = c.args.turn.group in
    let t = c.args.turn.number in
    let trace = g.V.Slotted.trace c.args.turn.found.value in
    let v = c.args.seat.now.place.me.0 in
    let end = worn_end k t trace v c.args.turn.boxed c.args.self.now.table.shared.table_id.slots
    c.load.new.seat.me c.exchange-gone.new.seat.me c.fetch_add.new.seat.me c.fetch_add.result
    (c.load.ensures.2 t trace c.requires.held) c.exchange-gone.ensures.3 c.fetch_add.ensures.2 in
    subst (GivesUp k v.held) (sym (held_is c.fetch_add.new.seat.me (worn_out k v) (others k t trace v) end))
    (gives_up k t trace v.held c.requires.held)

pub invariant_of-seat-2 : goal.invariant_of-seat-2
invariant_of-seat-2 g c =
    let k = c.args.turn.group in
    let t = c.args.turn.number in
    let trace = g.V.Slotted.trace c.args.turn.found.value in
    let v = c.args.seat.now.place.me.0 in
    let left = g.V.Slotted.trace c.args.turn.boxed.value in
    let end = freed_end k t trace v (in_box g.V.Slotted.trace) c.args.turn.boxed
    c.args.self.now.table.shared.table_id.slots c.load.new.seat.me c.exchange-gone.new.seat.me
    c.fetch_add-2.new.seat.me c.fetch_add-2.result
    (c.load.ensures.2 t trace c.requires.held) c.exchange-gone.ensures.3 c.fetch_add-2.ensures.2 in
    record {
      named = (
        names_are c.fetch_add-2.new.seat.me (freed k t left v)
            (others k t trace v) end.0 ∙ c.args.seat.now.named.0,
        free_from_is c.fetch_add-2.new.seat.me
            (freed k t left v) (others k t trace v) end.0 ∙
            c.args.seat.now.named.1,
      );
      alive = let s = share_is c.fetch_add-2.new.seat.me (freed k t left v)
          (others k t trace v) end.0 in let a = c.args.seat.now.alive in omega arith;
      small = let f = free_to_is c.fetch_add-2.new.seat.me (freed k t left v)
          (others k t trace v) end.0 in let a = c.args.seat.now.small in omega arith;
      carries = carries_are c.fetch_add-2.new.seat.me (freed k t left v)
          (others k t trace v) end.0 refl;
    }

pub returns-clause-seat : goal.returns-clause-seat
returns-clause-seat g c =
    let k = c.args.turn.group in
    let t = c.args.turn.number in
    let trace = g.V.Slotted.trace c.args.turn.found.value in
    let v = c.args.seat.now.place.me.0 in
    let left = g.V.Slotted.trace c.args.turn.boxed.value in
    let end = freed_end k t trace v (in_box g.V.Slotted.trace) c.args.turn.boxed
    c.args.self.now.table.shared.table_id.slots c.load.new.seat.me c.exchange-gone.new.seat.me
    c.fetch_add-2.new.seat.me c.fetch_add-2.result
    (c.load.ensures.2 t trace c.requires.held) c.exchange-gone.ensures.3 c.fetch_add-2.ensures.2 in (
      c.fetch_add-2.ensures.0 ∙ c.exchange-gone.ensures.0 ∙ c.load.ensures.0 ∙ c.requires.seat.0,
      tags_are
          c.fetch_add-2.new.seat.me (freed k t left v) (others k t trace v)
          end.0 ∙ c.requires.seat.1,
    )

pub returns-clause-freed : goal.returns-clause-freed
returns-clause-freed g c _ =
    let k = c.args.turn.group in
    let t = c.args.turn.number in
    let trace = g.V.Slotted.trace c.args.turn.found.value in
    let v = c.args.seat.now.place.me.0 in
    let left = g.V.Slotted.trace c.args.turn.boxed.value in
    let end = freed_end k t trace v (in_box g.V.Slotted.trace) c.args.turn.boxed
    c.args.self.now.table.shared.table_id.slots c.load.new.seat.me c.exchange-gone.new.seat.me
    c.fetch_add-2.new.seat.me c.fetch_add-2.result
    (c.load.ensures.2 t trace c.requires.held) c.exchange-gone.ensures.3 c.fetch_add-2.ensures.2 in
    let most = c.args.turn.bounded in
    let not_last = c.if-number.false in
    record {
      number = omega arith;
      is = view_is c.fetch_add-2.new.seat.me
          (freed k t left v) (others k t trace v) end.0;
      knows = end.1;
    }

pub returns-clause-others : goal.returns-clause-others
returns-clause-others g c =
    let k = c.args.turn.group in
    let t = c.args.turn.number in
    let trace = g.V.Slotted.trace c.args.turn.found.value in
    let v = c.args.seat.now.place.me.0 in
    let left = g.V.Slotted.trace c.args.turn.boxed.value in
    let end = freed_end k t trace v (in_box g.V.Slotted.trace) c.args.turn.boxed
    c.args.self.now.table.shared.table_id.slots c.load.new.seat.me c.exchange-gone.new.seat.me
    c.fetch_add-2.new.seat.me c.fetch_add-2.result
    (c.load.ensures.2 t trace c.requires.held) c.exchange-gone.ensures.3 c.fetch_add-2.ensures.2 in
    subst (GivesUp k v.held) (sym (held_is c.fetch_add-2.new.seat.me
    (freed k t left v) (others k t trace v) end.0))
    (gives_up k t trace v.held c.requires.held)
