-- The rules of persons and conferences read exactly their spellings.
use Rattle.std.proofs.Common.{◌≡◌, List, ◌++◌, refl, subst}
use Rattle.kom_types.specs.declared.conferences.Conference.{Conference}
use Rattle.kom_types.specs.declared.persons.Person.{Person}
use Rattle.kom_types.specs.spellings.AuxItems as items
use Rattle.kom_types.specs.spellings.Conferences as conferences
use Rattle.kom_types.specs.spellings.Persons as persons
use Rattle.kom_types.specs.spellings.Words as words
use Rattle.kom_types.specs.Token.{Token}
use Rattle.kom_types.specs.calls.Arguments.{Took}
use Rattle.kom_records.specs.Fits.{IsConference, IsPerson, IsAuxItem, AreFit}
use Rattle.kom_records.specs.Records.{conference, person, aux_item}
use Rattle.kom_records.specs.Rules.{array}
use Rattle.kom_records.specs.Words.{tokens_of_words}
use Rattle.kom_records.proofs.Spelled.{IsSpelled, on, onward, glue, took_same}
use Rattle.kom_records.proofs.Values.{number_is, text_is}
use Rattle.kom_records.proofs.Bits.{bits_8_is, bits_16_is}
use Rattle.kom_records.proofs.Moments.{time_is}
use Rattle.kom_records.proofs.LongArrays.{array_is}
use Rattle.kom_records.proofs.SmallRecords.{aux_item_is}

pub aux_items_is : IsSpelled (array aux_item) items.aux_items (AreFit IsAuxItem)
aux_items_is = array_is aux_item items.aux_item IsAuxItem aux_item_is

conference_back : (of : Conference) (tail : List Token) → IsConference of →
    conference (tokens_of_words (conferences.conference of) ++ tail) ≡ Took of tail
conference_back of tail fits =
    onward text_is of.name _ _ _ fits.0 (
    onward bits_8_is of.kind _ _ _ fits.1.0 (
    onward time_is of.created _ _ _ fits.1.1.0 (
    onward time_is of.last_written _ _ _ fits.1.1.1.0 (
    onward number_is of.creator _ _ _ fits.1.1.1.1.0 (
    onward number_is of.presentation _ _ _ fits.1.1.1.1.1.0 (
    onward number_is of.supervisor _ _ _ fits.1.1.1.1.1.1.0 (
    onward number_is of.submitters _ _ _ fits.1.1.1.1.1.1.1.0 (
    onward number_is of.super_conference _ _ _ fits.1.1.1.1.1.1.1.1.0 (
    onward number_is of.motd _ _ _ fits.1.1.1.1.1.1.1.1.1.0 (
    onward number_is of.nice _ _ _ fits.1.1.1.1.1.1.1.1.1.1.0 (
    onward number_is of.keep_commented _ _ _ fits.1.1.1.1.1.1.1.1.1.1.1.0 (
    onward number_is of.members _ _ _ fits.1.1.1.1.1.1.1.1.1.1.1.1.0 (
    onward number_is of.first_local _ _ _ fits.1.1.1.1.1.1.1.1.1.1.1.1.1.0 (
    onward number_is of.texts _ _ _ fits.1.1.1.1.1.1.1.1.1.1.1.1.1.1.0 (
    onward number_is of.expire _ _ _ fits.1.1.1.1.1.1.1.1.1.1.1.1.1.1.1.0 (
    onward aux_items_is of.aux_items _ _ _ fits.1.1.1.1.1.1.1.1.1.1.1.1.1.1.1.1 (refl)))))))))))))))))

conference_from : (tokens tail : List Token) (of : Conference) → conference tokens ≡ Took of tail →
    IsConference of × (tokens ≡ tokens_of_words (conferences.conference of) ++ tail)
conference_from tokens tail of is =
    on text_is tokens _ of tail is (λ v0 t0 f0 e0 r0.
    on bits_8_is t0 _ of tail r0 (λ v1 t1 f1 e1 r1.
    on time_is t1 _ of tail r1 (λ v2 t2 f2 e2 r2.
    on time_is t2 _ of tail r2 (λ v3 t3 f3 e3 r3.
    on number_is t3 _ of tail r3 (λ v4 t4 f4 e4 r4.
    on number_is t4 _ of tail r4 (λ v5 t5 f5 e5 r5.
    on number_is t5 _ of tail r5 (λ v6 t6 f6 e6 r6.
    on number_is t6 _ of tail r6 (λ v7 t7 f7 e7 r7.
    on number_is t7 _ of tail r7 (λ v8 t8 f8 e8 r8.
    on number_is t8 _ of tail r8 (λ v9 t9 f9 e9 r9.
    on number_is t9 _ of tail r9 (λ v10 t10 f10 e10 r10.
    on number_is t10 _ of tail r10 (λ v11 t11 f11 e11 r11.
    on number_is t11 _ of tail r11 (λ v12 t12 f12 e12 r12.
    on number_is t12 _ of tail r12 (λ v13 t13 f13 e13 r13.
    on number_is t13 _ of tail r13 (λ v14 t14 f14 e14 r14.
    on number_is t14 _ of tail r14 (λ v15 t15 f15 e15 r15.
    on aux_items_is t15 _ of tail r15 (λ v16 t16 f16 e16 r16.
    let same = took_same _ of t16 tail r16 in
    let Told : Conference → Type 0 =
    λ of. IsConference of × (tokens ≡ tokens_of_words (conferences.conference of) ++ tail) in
    subst Told same.0 (
      (
        f0,
        (
          f1,
          (
            f2,
            (
              f3,
              (
                f4,
                (
                  f5,
                  (
                    f6,
                    (
                      f7,
                      (
                        f8,
                        (
                          f9,
                          (
                            f10,
                            (
                              f11,
                              (
                                f12,
                                (
                                  f13,
                                  (
                                    f14,
                                    (
                                      f15,
                                      f16,
                                    ),
                                  ),
                                ),
                              ),
                            ),
                          ),
                        ),
                      ),
                    ),
                  ),
                ),
              ),
            ),
          ),
        ),
      ),
      glue (words.text v0) tokens t0 _ e0 (
          glue (words.bits 8 v1) t0 t1 _ e1 (
          glue (words.time v2) t1 t2 _ e2 (
          glue (words.time v3) t2 t3 _ e3 (
          glue (words.number v4) t3 t4 _ e4 (
          glue (words.number v5) t4 t5 _ e5 (
          glue (words.number v6) t5 t6 _ e6 (
          glue (words.number v7) t6 t7 _ e7 (
          glue (words.number v8) t7 t8 _ e8 (
          glue (words.number v9) t8 t9 _ e9 (
          glue (words.number v10) t9 t10 _ e10 (
          glue (words.number v11) t10 t11 _ e11 (
          glue (words.number v12) t11 t12 _ e12 (
          glue (words.number v13) t12 t13 _ e13 (
          glue (words.number v14) t13 t14 _ e14 (
          glue (words.number v15) t14 t15 _ e15 (
          glue (items.aux_items v16) t15 t16 _ e16 (
          same.1))))))))))))))))),
    ))))))))))))))))))

pub conference_is : IsSpelled conference conferences.conference IsConference
conference_is = record { back = conference_back; forth = conference_from }

person_back : (of : Person) (tail : List Token) → IsPerson of →
    person (tokens_of_words (persons.person of) ++ tail) ≡ Took of tail
person_back of tail fits =
    onward text_is of.user _ _ _ fits.0 (
    onward bits_16_is of.privileges _ _ _ fits.1.0 (
    onward bits_8_is of.flags _ _ _ fits.1.1.0 (
    onward time_is of.last_login _ _ _ fits.1.1.1.0 (
    onward number_is of.user_area _ _ _ fits.1.1.1.1.0 (
    onward number_is of.time_present _ _ _ fits.1.1.1.1.1.0 (
    onward number_is of.sessions _ _ _ fits.1.1.1.1.1.1.0 (
    onward number_is of.created_lines _ _ _ fits.1.1.1.1.1.1.1.0 (
    onward number_is of.created_bytes _ _ _ fits.1.1.1.1.1.1.1.1.0 (
    onward number_is of.read_texts _ _ _ fits.1.1.1.1.1.1.1.1.1.0 (
    onward number_is of.text_fetches _ _ _ fits.1.1.1.1.1.1.1.1.1.1.0 (
    onward number_is of.created_persons _ _ _ fits.1.1.1.1.1.1.1.1.1.1.1.0 (
    onward number_is of.created_conferences _ _ _ fits.1.1.1.1.1.1.1.1.1.1.1.1.0 (
    onward number_is of.first_created_local _ _ _ fits.1.1.1.1.1.1.1.1.1.1.1.1.1.0 (
    onward number_is of.created_texts _ _ _ fits.1.1.1.1.1.1.1.1.1.1.1.1.1.1.0 (
    onward number_is of.marks _ _ _ fits.1.1.1.1.1.1.1.1.1.1.1.1.1.1.1.0 (
    onward number_is of.conferences _ _ _ fits.1.1.1.1.1.1.1.1.1.1.1.1.1.1.1.1 (refl)))))))))))))))))

person_from : (tokens tail : List Token) (of : Person) → person tokens ≡ Took of tail →
    IsPerson of × (tokens ≡ tokens_of_words (persons.person of) ++ tail)
person_from tokens tail of is =
    on text_is tokens _ of tail is (λ v0 t0 f0 e0 r0.
    on bits_16_is t0 _ of tail r0 (λ v1 t1 f1 e1 r1.
    on bits_8_is t1 _ of tail r1 (λ v2 t2 f2 e2 r2.
    on time_is t2 _ of tail r2 (λ v3 t3 f3 e3 r3.
    on number_is t3 _ of tail r3 (λ v4 t4 f4 e4 r4.
    on number_is t4 _ of tail r4 (λ v5 t5 f5 e5 r5.
    on number_is t5 _ of tail r5 (λ v6 t6 f6 e6 r6.
    on number_is t6 _ of tail r6 (λ v7 t7 f7 e7 r7.
    on number_is t7 _ of tail r7 (λ v8 t8 f8 e8 r8.
    on number_is t8 _ of tail r8 (λ v9 t9 f9 e9 r9.
    on number_is t9 _ of tail r9 (λ v10 t10 f10 e10 r10.
    on number_is t10 _ of tail r10 (λ v11 t11 f11 e11 r11.
    on number_is t11 _ of tail r11 (λ v12 t12 f12 e12 r12.
    on number_is t12 _ of tail r12 (λ v13 t13 f13 e13 r13.
    on number_is t13 _ of tail r13 (λ v14 t14 f14 e14 r14.
    on number_is t14 _ of tail r14 (λ v15 t15 f15 e15 r15.
    on number_is t15 _ of tail r15 (λ v16 t16 f16 e16 r16.
    let same = took_same _ of t16 tail r16 in
    let Told : Person → Type 0 = λ of. IsPerson of × (tokens ≡ tokens_of_words (persons.person of) ++ tail) in
    subst Told same.0 (
      (
        f0,
        (
          f1,
          (
            f2,
            (
              f3,
              (
                f4,
                (
                  f5,
                  (
                    f6,
                    (
                      f7,
                      (
                        f8,
                        (
                          f9,
                          (
                            f10,
                            (
                              f11,
                              (
                                f12,
                                (
                                  f13,
                                  (
                                    f14,
                                    (
                                      f15,
                                      f16,
                                    ),
                                  ),
                                ),
                              ),
                            ),
                          ),
                        ),
                      ),
                    ),
                  ),
                ),
              ),
            ),
          ),
        ),
      ),
      glue (words.text v0) tokens t0 _ e0 (
          glue (words.bits 16 v1) t0 t1 _ e1 (
          glue (words.bits 8 v2) t1 t2 _ e2 (
          glue (words.time v3) t2 t3 _ e3 (
          glue (words.number v4) t3 t4 _ e4 (
          glue (words.number v5) t4 t5 _ e5 (
          glue (words.number v6) t5 t6 _ e6 (
          glue (words.number v7) t6 t7 _ e7 (
          glue (words.number v8) t7 t8 _ e8 (
          glue (words.number v9) t8 t9 _ e9 (
          glue (words.number v10) t9 t10 _ e10 (
          glue (words.number v11) t10 t11 _ e11 (
          glue (words.number v12) t11 t12 _ e12 (
          glue (words.number v13) t12 t13 _ e13 (
          glue (words.number v14) t13 t14 _ e14 (
          glue (words.number v15) t14 t15 _ e15 (
          glue (words.number v16) t15 t16 _ e16 (
          same.1))))))))))))))))),
    ))))))))))))))))))

pub person_is : IsSpelled person persons.person IsPerson
person_is = record { back = person_back; forth = person_from }
