use Rattle.std.proofs.Common.{◌≡◌, not, sym, subst}
use Rattle.std.specs.Prelude.{filter}
use Rattle.ts_wire.specs.FieldList.{is_named}
use Rattle.ts_wire.specs.OneHead.{IsChangeOf}
use Rattle.ts_wire.proofs.HeaderRules.{removed}
use Rattle.ts_wire.proofs.fields.Fields.remove_all.Goals as goal

pub returns-clause-rule : goal.returns-clause-rule
returns-clause-rule c sent change free =
    let is : c.remove_named.new.list.items ≡ filter (λ f. not (is_named c.args.name.now f)) c.args.self.now =
    cc in
    subst (IsChangeOf sent) (sym is) (removed sent c.args.self.now c.args.name.now change free)
