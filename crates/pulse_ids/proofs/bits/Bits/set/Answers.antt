use Rattle.std.proofs.Common.{◌≡◌, ◌<◌, List, Bool, length, slice_set, sym, subst, arith}
use Rattle.pulse_ids.specs.Bits.{bits_of, HasBitPut}
use Rattle.pulse_ids.proofs.PackedBits.{bits_of_set, length_bits_of}
use Rattle.pulse_ids.proofs.bits.Bits.set.Goals as goal

pub returns : goal.returns
returns g c =
    let within : g.I.Ident.number_of c.args.id < length (bits_of c.self.inside.words.items c.self.inside.count) =
    subst (λ (l : List Bool). g.I.Ident.number_of c.args.id < length l) (sym c.self.view_is) c.requires in
    subst (λ l. bits_of c.write_bit.new.words.items c.self.inside.count ≡ slice_set l (g.I.Ident.number_of c.args.id) c.args.bit) c.self.view_is
    (bits_of_set c.self.inside.words.items c.write_bit.new.words.items c.self.inside.count (g.I.Ident.number_of c.args.id) c.args.bit
    (subst (λ n. HasBitPut c.self.inside.words.items n c.args.bit c.write_bit.new.words.items) c.number.ensures c.write_bit.ensures.bits)
    (omega (arith, within, length_bits_of c.self.inside.words.items c.self.inside.count)))
