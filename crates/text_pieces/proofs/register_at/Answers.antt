-- The counted letters and digits name the register.
use Rattle.std.specs.Prelude.{Some}
use Rattle.std.proofs.Common.{ap, ◌∙◌}
use Rattle.register_names.specs.declared.NamedRegister.{NamedRegister}
use Rattle.text_pieces.proofs.WordLaws.{name_word, register_is}
use Rattle.text_pieces.proofs.register_at.Goals as goal

pub register_named-requires : goal.register_named-requires
register_named-requires c = name_word c.args.place.now.text.now c.args.place.now.at _ c.word_len-len.ensures.0

pub returns-in-Some-General : goal.returns-in-Some-General
returns-in-Some-General c = register_is c.args.place.now.text.now c.args.place.now.at _ c.word_len-len.ensures.0 _ _ c.register_named.ensures (c.in-Some-General.is ∙ ap (λ (x : NamedRegister). Some x) c.in-Some-General.field-0-is)

pub returns-in-Some-Float : goal.returns-in-Some-Float
returns-in-Some-Float c = register_is c.args.place.now.text.now c.args.place.now.at _ c.word_len-len.ensures.0 _ _ c.register_named.ensures (c.in-Some-Float.is ∙ ap (λ (x : NamedRegister). Some x) c.in-Some-Float.field-0-is)

pub returns-in-None : goal.returns-in-None
returns-in-None c = register_is c.args.place.now.text.now c.args.place.now.at _ c.word_len-len.ensures.0 _ _ c.register_named.ensures c.in-None.is
