-- A transaction that was just made is sound: nothing was given, taken or queued.
use Rattle.std.proofs.Common.{◌≡◌, ℕ, ◌≤◌, List, [], true, Option, Some, None, inl, arith, refl, sym, ap}
use Rattle.std.proofs.Common.{subst, ◌∙◌}
use Rattle.std.specs.Arc.{arc_value}
use Rattle.std.specs.Prelude.{⊤}
use Rattle.ts_group.specs.declared.action.Named.{Named}
use Rattle.ts_group.specs.declared.group.Group.{Group}
use Rattle.ts_group.specs.Context.{IsFresh}
use Rattle.ts_journal.specs.declared.entry.Pending.{Pending}
use Rattle.ts_journal.specs.State.{State}
use Rattle.ts_link.specs.Link.{Look}
use Rattle.ts_link.specs.declared.link.Link as link
use Rattle.ts_upstream.specs.declared.upstream.Upstream as upstream
use Rattle.ts_transform.specs.declared.transform.Transform as transform
use Rattle.ts_wire.specs.declared.frames.Mode.TheVariants as M
use Rattle.ts_config.specs.declared.setup.TransformLine.{TransformLine}
use Rattle.ts_passing.specs.Lines.{ActsAsLines}
use Rattle.ts_phases.specs.Facts.{Asking, Untouched}
use Rattle.ts_plugin.specs.Lines.{table_of}
use Rattle.ts_txn.specs.Making.{ArePaired, IsMadeOf, IsMadeOfIf, IsNewLink, IsNewLinkIf, IsTxnSetup}
use Rattle.ts_phases.specs.View.{HasCount, PairIf, side, side_if, view_of}
use Rattle.ts_txn.specs.World.{IsSoundOn, IsSoundTxn, IsSoundTxnGroup}
use Rattle.ts_txn.specs.declared.course.Course.TheVariants as K
use Rattle.ts_phases.specs.declared.parts.Peer.{Peer}
use Rattle.ts_phases.specs.declared.phase.Phase.TheVariants as P
use Rattle.ts_txn.specs.declared.txn.Txn.{Txn}

module _ {L : Type 0} (look : L → Look) where
  seen : (l : L) (p : Peer L) → IsMadeOf look l p → look p.link ≡ look l
  seen l p made = ap look made.link_is

  count : (l : L) (p : Peer L) → IsMadeOf look l p → p.base ≤ (look p.link).faults
  count l p made = let same : (look p.link).faults ≡ (look l).faults = ap (λ (k : Look). k.faults)
      (seen l p made) in omega (arith, made.base, same)

  untouched : (l : L) (p : Peer L) → IsMadeOf look l p → IsNewLink (look l) → Untouched (side look p)
  untouched l p made unused = record {
    count = count l p made;
    no_taken = ap (λ (k : Look). k.taken) (seen l p made) ∙ unused.no_taken;
    no_carried = ap (λ (k : Look). k.carried) (seen l p made) ∙ unused.no_carried;
    no_waits = made.outbox;
    no_given = ap (λ (k : Look). k.given) (seen l p made) ∙ unused.no_given;
    no_held = made.inbox;
  }

  untouched_if : (o : Option L) (x : Option (Peer L)) → IsMadeOfIf look o x → IsNewLinkIf look o
      → Untouched (side_if look x)
  untouched_if None None made unused = record {
    count = omega arith;
    no_taken = refl;
    no_carried = refl;
    no_waits = refl;
    no_given = refl;
    no_held = refl;
  }
  untouched_if None (Some p) made unused = absurd made
  untouched_if (Some l) None made unused = absurd made
  untouched_if (Some l) (Some p) made unused = untouched l p made unused

  count_if : (o : Option L) (x : Option (Peer L)) → IsMadeOfIf look o x → HasCount (side_if look x)
  count_if None None made = omega arith
  count_if None (Some p) made = absurd made
  count_if (Some l) None made = absurd made
  count_if (Some l) (Some p) made = count l p made

module _ {C O Q : Type 0} (client : link.Ghosts C) (origin : link.Ghosts O) (c : C) (o : Option O)
    (t : Txn C O Q)
    (of_client : IsMadeOf client.look c t.core.client) (of_origin : IsMadeOfIf origin.look o t.core.origin)
  where
    asking : IsNewLink (client.look c) → IsNewLinkIf origin.look o → t.core.sent.head ≡ 0
        → t.core.sent.mode ≡ M.Plain
        → t.core.sent.cuts.items ≡ [] → Asking (view_of client origin t.core)
    asking unused unused_origin head mode cuts =
        let u = untouched client.look c t.core.client of_client unused in
        record {
          count = u.count;
          quiet = record {
            no_taken = u.no_taken;
            no_waits = u.no_waits;
            no_head = head;
            plain = mode;
            no_cuts =
                cuts;
          };
          untouched = untouched_if origin.look o t.core.origin of_origin unused_origin;
          held = u.no_given ∙ sym u.no_held;
        }

    paired_if : (paired : C → O → Type 0) (o : Option O) (x : Option (Peer O)) → IsMadeOfIf origin.look o x
        → ArePaired paired c o → PairIf paired t.core.client.link x
    paired_if paired None None made pair = tt
    paired_if paired None (Some p) made pair = absurd made
    paired_if paired (Some l) None made pair = absurd made
    paired_if paired (Some l) (Some p) made pair =
        subst (λ (k : O). paired t.core.client.link k) (sym made.link_is)
        (subst (λ (d : C). paired d l) (sym of_client.link_is) pair)

    pub sound : (both : upstream.Ghosts O C) (stage : transform.Ghosts Q TransformLine) (next : ℕ)
        (roles : List Named)
        → (client.tells ≡ true → IsNewLink (client.look c))
        → (origin.tells ≡ true → IsNewLinkIf origin.look o)
        → ArePaired both.paired c o
        → ActsAsLines stage
        → IsTxnSetup (arc_value t.core.setup) t.core.plugins_at
        → t.core.hooks ≡ table_of t.core.plugins_at (arc_value t.core.setup).plugins.items
        → t.course ≡ K.Phased P.Fresh → t.main ≡ None → t.core.sent.head ≡ 0 → t.core.sent.mode ≡ M.Plain
        → t.core.sent.cuts.items ≡ []
        → IsSoundTxn client origin both stage t [] next roles
    sound both stage next roles unused unused_origin pair acts takes table fresh none head mode
        cuts =
        subst (λ k. IsSoundOn client origin both stage t.core t.main k [] next
        roles) (sym fresh)
        (subst (λ m. IsSoundOn client origin both stage t.core m (K.Phased P.Fresh)
        [] next roles) (sym none) (record {
          stands = record {
            holds = λ told also. asking (unused told) (unused_origin also) head mode cuts;
            pair = paired_if both.paired o t.core.origin of_origin pair;
            acts = acts;
            lines = tt;
            little = λ told also. tt;
            setup = takes;
            hooks = record { table_is = table; ordered = takes.ordered };
            causes = record {
              counts = record {
                client = count client.look c t.core.client of_client;
                origin = count_if origin.look o t.core.origin of_origin;
              };
              ends = tt;
            };
          };
          covered = record {
            seated = λ n p there. let wrong : ◌≡◌ {A = Option Pending} None (Some p) = there in absurd (cc);
            plain = tt;
            idles = refl;
            covered = inl (tt, tt);
          };
        }))

-- links of which any two belong together do
pub any_paired : {C O : Type 0} (c : C) (o : Option O) → ArePaired (λ x y. ⊤) c o
any_paired c None = tt
any_paired c (Some l) = tt

-- so is a group that was made of it
pub sound_in_group : {C O Q A R T U : Type 0} (client : link.Ghosts C) (origin : link.Ghosts O)
    (both : upstream.Ghosts O C)
    (stage : transform.Ghosts Q TransformLine) (t : Txn C O Q)
    (g : Group (Txn C O Q) A R T U) (turns : ℕ)
    → ((next : ℕ) (roles : List Named) → IsSoundTxn client origin both stage t []
    next roles)
    → g.world ≡ t → IsFresh turns g.cx → IsSoundTxnGroup client origin both stage
    g
sound_in_group client origin both stage t g turns sound world fresh =
    subst (λ w. IsSoundTxn client origin both stage w g.cx.log.state.pending
    g.cx.log.state.next g.cx.roles) (sym world)
    (subst (λ (s : State). IsSoundTxn client origin both stage t s.pending s.next
    g.cx.roles) (sym fresh.state) (sound _ g.cx.roles))
