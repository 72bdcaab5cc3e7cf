-- Whether two channels are one.
use Rattle.std.proofs.Common.{◌≡◌, true, false, refl}
use Rattle.std.proofs.lemmas.Bool.{false≢true}
use Rattle.isotp_receive.specs.Channels.{same_channel, other_channel}
use Rattle.isotp_receive.specs.declared.channel.Channel.{Channel}
use Rattle.isotp_receive.specs.declared.channel.Channel.TheVariants.{Tester, Unit, Functional}

pub same : (d e : Channel) → same_channel d e ≡ true → d ≡ e
same Tester Tester h = refl
same Unit Unit h = refl
same Functional Functional h = refl
same Tester Unit h = absurd (false≢true h)
same Tester Functional h = absurd (false≢true h)
same Unit Tester h = absurd (false≢true h)
same Unit Functional h = absurd (false≢true h)
same Functional Tester h = absurd (false≢true h)
same Functional Unit h = absurd (false≢true h)

pub same-self : (d : Channel) → same_channel d d ≡ true
same-self Tester = refl
same-self Unit = refl
same-self Functional = refl

pub apart-flipped : (d e : Channel) → same_channel d e ≡ false → same_channel e d ≡ false
apart-flipped Tester Tester h = h
apart-flipped Tester Unit h = refl
apart-flipped Tester Functional h = refl
apart-flipped Unit Tester h = refl
apart-flipped Unit Unit h = h
apart-flipped Unit Functional h = refl
apart-flipped Functional Tester h = refl
apart-flipped Functional Unit h = refl
apart-flipped Functional Functional h = h

pub other-apart : (d : Channel) → same_channel (other_channel d) d ≡ false
other-apart Tester = refl
other-apart Unit = refl
other-apart Functional = refl
