use Rattle.std.proofs.Common.{◌∙◌, ap₂, codes}
use Rattle.clap.specs.Simple.{with_rule}
use Rattle.ts_words.proofs.Asked.{plain_is}
use Rattle.ts_words.proofs.serve.serve_command.Goals as goal

pub returns : goal.returns
returns c =
    let plain = plain_is (codes "serve") c.new.result c.no_binary_name.result c.disable_help_flag.result c.disable_version_flag-plain.result
    c.no_binary_name.ensures c.disable_help_flag.ensures c.disable_version_flag-plain.ensures c.new.ensures.app in
    let with_listen = c.in_ok-with_listen.ensures.shape c.text_option-listen.ensures.local ∙ ap₂ with_rule plain c.text_option-listen.ensures.rule in
    let with_origin = c.in_ok-with_origin.ensures.shape c.text_option-origin.ensures.local ∙ ap₂ with_rule with_listen c.text_option-origin.ensures.rule in
    let with_config = c.in_ok-with_config.ensures.shape c.text_option-config.ensures.local ∙ ap₂ with_rule with_origin c.text_option-config.ensures.rule in
    let with_threads = c.in_ok-with_threads.ensures.shape c.number_option-threads.ensures.local
    ∙ ap₂ with_rule with_config c.number_option-threads.ensures.rule in
    let with_connections = c.in_ok-with_connections.ensures.shape c.number_option-connections.ensures.local
    ∙ ap₂ with_rule with_threads c.number_option-connections.ensures.rule in
    c.in_ok-with_sessions.ensures.shape c.flag_option-sessions.ensures.local
    ∙ ap₂ with_rule with_connections c.flag_option-sessions.ensures.rule
