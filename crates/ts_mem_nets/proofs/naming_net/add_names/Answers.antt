-- The names stand behind those that were there, or memory lacked.
use Rattle.std.specs.Prelude.{is_ok}
use Rattle.ts_mem_nets.proofs.Naming.{adds_names}
use Rattle.ts_mem_nets.proofs.naming_net.add_names.Goals as goal

pub returns : goal.returns
returns c =
    adds_names c.args.ready.now.items c.extend_from_slice.new.self.items c.args.names.now
    (is_ok c.extend_from_slice.result) c.extend_from_slice.ensures.items
