use Rattle.std.proofs.Common.{◌≡◌, ◌++◌, ◌∙◌, ap, sym, true, false, Bool, cond}
use Rattle.stream_maker.specs.Bytes.{extension, long_extension, short_extension, starts_key_frame}
use Rattle.stream_maker.proofs.packet.write_extension.Goals as goal

pub returns-then-starts_key_frame-clause-bytes : goal.returns-then-starts_key_frame-clause-bytes
unfolding extension
returns-then-starts_key_frame-clause-bytes c =
    let key : starts_key_frame c.args.place ≡ true = sym c.starts_key_frame.ensures ∙ c.if-starts_key_frame.true in
    c.write_long_descriptor.ensures.bytes
    ∙ ap (λ (b : Bool). c.args.out.now ++ cond b (long_extension c.args.place.frame) (short_extension c.args.place)) (sym key)

pub returns-else-starts_key_frame-clause-bytes : goal.returns-else-starts_key_frame-clause-bytes
unfolding extension
returns-else-starts_key_frame-clause-bytes c =
    let other : starts_key_frame c.args.place ≡ false = sym c.starts_key_frame.ensures ∙ c.if-starts_key_frame.false in
    c.write_short_descriptor.ensures.bytes
    ∙ ap (λ (b : Bool). c.args.out.now ++ cond b (long_extension c.args.place.frame) (short_extension c.args.place)) (sym other)
