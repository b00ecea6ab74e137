-- Stored pairs of scenes, made by tools/alike_pairs.py: alike ones, and control pairs in which one rule is broken.
use Rattle.std.specs.Prelude.{List, [], ◌∷◌}
use Rattle.test_alike_pairs.specs.Side.{Pair}
use Rattle.scene_tables.specs.Tables.{raised, raised_minus}

abbrev pub pair121 : Pair
pair121 =
    record {
      one = record { tables = ((raised 147451 ∷ raised 1 ∷ raised 255 ∷ raised 28 ∷ raised 1 ∷ raised 1 ∷ []) ∷ []) ∷ ((raised 2 ∷ raised 37376271 ∷ raised 1 ∷ []) ∷ []) ∷ ((raised 0 ∷ raised_minus 96000 ∷ []) ∷ (raised 1 ∷ raised_minus 66828 ∷ []) ∷ (raised 2 ∷ raised 1 ∷ []) ∷ []) ∷ ([]) ∷ ([]) ∷ ((raised 2 ∷ raised 0 ∷ raised 1 ∷ raised 0 ∷ []) ∷ []) ∷ ([]) ∷ ([]) ∷ ((raised 0 ∷ raised 4 ∷ raised 2 ∷ raised 0 ∷ raised 1 ∷ raised 1 ∷ raised 500 ∷ raised 1 ∷ raised 2 ∷ raised 5 ∷ []) ∷ (raised 0 ∷ raised 4 ∷ raised 3 ∷ raised 0 ∷ raised 0 ∷ raised 6 ∷ raised 0 ∷ raised 1 ∷ raised 1 ∷ raised 6 ∷ []) ∷ []) ∷ []; bits = 1039721420 ∷ 1032451138 ∷ []; visiting = []; chosen = 0 ∷ [] };
      other = record { tables = ((raised 147451 ∷ raised 1 ∷ raised 255 ∷ raised 28 ∷ raised 1 ∷ raised 1 ∷ []) ∷ []) ∷ ((raised 2 ∷ raised 37376271 ∷ raised 1 ∷ []) ∷ []) ∷ ((raised 0 ∷ raised_minus 96000 ∷ []) ∷ []) ∷ ([]) ∷ ([]) ∷ ((raised 1 ∷ raised 0 ∷ raised 0 ∷ raised 1 ∷ []) ∷ (raised 1 ∷ raised 0 ∷ raised 0 ∷ raised 1 ∷ []) ∷ []) ∷ ([]) ∷ ((raised 1 ∷ raised 633068 ∷ raised_minus 1 ∷ raised 0 ∷ raised 1 ∷ raised 315275 ∷ []) ∷ []) ∷ ([]) ∷ []; bits = []; visiting = []; chosen = 0 ∷ [] };
    }

abbrev pub pair149 : Pair
pair149 =
    record {
      one = record { tables = ((raised 48000 ∷ raised 5 ∷ raised 255 ∷ raised 4 ∷ raised 1 ∷ raised_minus 96000 ∷ []) ∷ []) ∷ ((raised 1 ∷ raised 2000 ∷ raised 0 ∷ []) ∷ (raised 1 ∷ raised 2000 ∷ raised 1 ∷ []) ∷ []) ∷ ((raised 0 ∷ raised_minus 60001 ∷ []) ∷ (raised 1 ∷ raised_minus 3000 ∷ []) ∷ (raised 2 ∷ raised_minus 63996 ∷ []) ∷ []) ∷ ([]) ∷ ([]) ∷ ((raised 3 ∷ raised 0 ∷ raised 1 ∷ raised 1 ∷ []) ∷ (raised 0 ∷ raised 1 ∷ raised 0 ∷ raised 1 ∷ []) ∷ []) ∷ ((raised_minus 116500 ∷ raised 117375 ∷ raised_minus 110875 ∷ []) ∷ []) ∷ ([]) ∷ ((raised 0 ∷ raised 4 ∷ raised 1 ∷ raised 0 ∷ raised 2 ∷ raised 1 ∷ raised 217 ∷ raised 1 ∷ raised 2 ∷ raised 3 ∷ []) ∷ (raised 0 ∷ raised 5 ∷ raised 1 ∷ raised 0 ∷ raised 2 ∷ raised 0 ∷ raised 911 ∷ raised 30 ∷ raised 0 ∷ raised 0 ∷ []) ∷ (raised 0 ∷ raised 4 ∷ raised 1 ∷ raised 0 ∷ raised 0 ∷ raised 0 ∷ raised 0 ∷ raised 2 ∷ raised 3 ∷ raised 3 ∷ []) ∷ (raised 0 ∷ raised 5 ∷ raised 1 ∷ raised 0 ∷ raised 0 ∷ raised 3600000 ∷ raised 0 ∷ raised 0 ∷ raised 2 ∷ raised 6 ∷ []) ∷ (raised 0 ∷ raised 5 ∷ raised 1 ∷ raised 0 ∷ raised 0 ∷ raised 0 ∷ raised 0 ∷ raised 35 ∷ raised 0 ∷ raised 0 ∷ []) ∷ (raised 0 ∷ raised 5 ∷ raised 1 ∷ raised 0 ∷ raised 0 ∷ raised 0 ∷ raised 0 ∷ raised 3600000 ∷ raised 1 ∷ raised 8 ∷ []) ∷ (raised 0 ∷ raised 0 ∷ raised 0 ∷ raised 0 ∷ raised 0 ∷ raised 3 ∷ raised 0 ∷ raised 1 ∷ raised 0 ∷ raised 0 ∷ []) ∷ (raised 0 ∷ raised 5 ∷ raised 1 ∷ raised 0 ∷ raised 0 ∷ raised 0 ∷ raised 0 ∷ raised 3600000 ∷ raised 1 ∷ raised 5 ∷ []) ∷ []) ∷ []; bits = 3141695847 ∷ 3144297186 ∷ []; visiting = 994347848 ∷ 3163014799 ∷ []; chosen = 0 ∷ [] };
      other = record { tables = ((raised 48000 ∷ raised 5 ∷ raised 255 ∷ raised 4 ∷ raised 1 ∷ raised_minus 96000 ∷ []) ∷ []) ∷ ((raised 1 ∷ raised 2000 ∷ raised 0 ∷ []) ∷ (raised 1 ∷ raised 2000 ∷ raised 1 ∷ []) ∷ []) ∷ ((raised 0 ∷ raised_minus 60001 ∷ []) ∷ (raised 1 ∷ raised 0 ∷ []) ∷ (raised 1 ∷ raised 4004 ∷ []) ∷ (raised 3 ∷ raised 4004 ∷ []) ∷ (raised 1 ∷ raised_minus 1 ∷ []) ∷ (raised 5 ∷ raised_minus 20000 ∷ []) ∷ (raised 6 ∷ raised 1 ∷ []) ∷ (raised 6 ∷ raised 1 ∷ []) ∷ (raised 6 ∷ raised_minus 20000 ∷ []) ∷ (raised 3 ∷ raised 18000 ∷ []) ∷ []) ∷ ([]) ∷ ([]) ∷ ((raised 7 ∷ raised 1 ∷ raised 0 ∷ raised 1 ∷ []) ∷ (raised 0 ∷ raised 1 ∷ raised 0 ∷ raised 1 ∷ []) ∷ (raised 3 ∷ raised 0 ∷ raised 1 ∷ raised 0 ∷ []) ∷ []) ∷ ((raised_minus 116500 ∷ raised 117375 ∷ raised_minus 110875 ∷ []) ∷ []) ∷ ([]) ∷ ((raised 0 ∷ raised 4 ∷ raised 1 ∷ raised 0 ∷ raised 2 ∷ raised 1 ∷ raised 217 ∷ raised 1 ∷ raised 2 ∷ raised 3 ∷ []) ∷ (raised 0 ∷ raised 5 ∷ raised 1 ∷ raised 0 ∷ raised 2 ∷ raised 0 ∷ raised 911 ∷ raised 30 ∷ raised 0 ∷ raised 0 ∷ []) ∷ (raised 0 ∷ raised 4 ∷ raised 1 ∷ raised 0 ∷ raised 0 ∷ raised 0 ∷ raised 0 ∷ raised 2 ∷ raised 3 ∷ raised 3 ∷ []) ∷ (raised 0 ∷ raised 5 ∷ raised 1 ∷ raised 0 ∷ raised 0 ∷ raised 3600000 ∷ raised 0 ∷ raised 0 ∷ raised 2 ∷ raised 6 ∷ []) ∷ (raised 0 ∷ raised 5 ∷ raised 1 ∷ raised 0 ∷ raised 0 ∷ raised 0 ∷ raised 0 ∷ raised 35 ∷ raised 0 ∷ raised 0 ∷ []) ∷ (raised 0 ∷ raised 5 ∷ raised 1 ∷ raised 0 ∷ raised 0 ∷ raised 0 ∷ raised 0 ∷ raised 3600000 ∷ raised 1 ∷ raised 8 ∷ []) ∷ (raised 0 ∷ raised 0 ∷ raised 0 ∷ raised 0 ∷ raised 0 ∷ raised 3 ∷ raised 0 ∷ raised 1 ∷ raised 0 ∷ raised 0 ∷ []) ∷ (raised 0 ∷ raised 5 ∷ raised 1 ∷ raised 0 ∷ raised 0 ∷ raised 0 ∷ raised 0 ∷ raised 3600000 ∷ raised 1 ∷ raised 5 ∷ []) ∷ []) ∷ []; bits = 992775898 ∷ 3139549018 ∷ []; visiting = 3128801004 ∷ 991748638 ∷ 994533005 ∷ 3120941236 ∷ []; chosen = 0 ∷ [] };
    }

abbrev pub pair158 : Pair
pair158 =
    record {
      one = record { tables = ((raised 11025 ∷ raised 8 ∷ raised 24 ∷ raised 2 ∷ raised 10 ∷ raised_minus 15021 ∷ []) ∷ []) ∷ ((raised 1 ∷ raised 500000 ∷ raised 1 ∷ []) ∷ (raised 2 ∷ raised 5 ∷ raised 1 ∷ []) ∷ (raised 2 ∷ raised 59015002 ∷ raised 1 ∷ []) ∷ (raised 0 ∷ raised 180 ∷ raised 1 ∷ []) ∷ []) ∷ ((raised 0 ∷ raised_minus 3000 ∷ []) ∷ (raised 1 ∷ raised 1 ∷ []) ∷ (raised 1 ∷ raised 4004 ∷ []) ∷ []) ∷ ((raised_minus 6000 ∷ []) ∷ []) ∷ ((raised 1 ∷ raised 1 ∷ raised_minus 60001 ∷ []) ∷ []) ∷ ((raised 1 ∷ raised 0 ∷ raised 1 ∷ raised 0 ∷ []) ∷ []) ∷ ([]) ∷ ([]) ∷ ((raised 0 ∷ raised 4 ∷ raised 1 ∷ raised 0 ∷ raised 0 ∷ raised 0 ∷ raised 0 ∷ raised 0 ∷ raised 1 ∷ raised 6 ∷ []) ∷ []) ∷ []; bits = 3109491264 ∷ 3125783128 ∷ []; visiting = 1009835694 ∷ 1006763828 ∷ []; chosen = 0 ∷ [] };
      other = record { tables = ((raised 11025 ∷ raised 8 ∷ raised 24 ∷ raised 2 ∷ raised 10 ∷ raised_minus 15021 ∷ []) ∷ []) ∷ ((raised 1 ∷ raised 500000 ∷ raised 1 ∷ []) ∷ (raised 2 ∷ raised 5 ∷ raised 1 ∷ []) ∷ (raised 2 ∷ raised 59015002 ∷ raised 1 ∷ []) ∷ (raised 0 ∷ raised 180 ∷ raised 1 ∷ []) ∷ []) ∷ ((raised 0 ∷ raised_minus 3000 ∷ []) ∷ (raised 1 ∷ raised 0 ∷ []) ∷ (raised 2 ∷ raised_minus 3000 ∷ []) ∷ (raised 1 ∷ raised_minus 1 ∷ []) ∷ []) ∷ ((raised_minus 6000 ∷ []) ∷ []) ∷ ((raised 1 ∷ raised 1 ∷ raised_minus 60001 ∷ []) ∷ []) ∷ ((raised 2 ∷ raised 0 ∷ raised 0 ∷ raised 1 ∷ []) ∷ (raised 1 ∷ raised 0 ∷ raised 0 ∷ raised 1 ∷ []) ∷ (raised 2 ∷ raised 1 ∷ raised 0 ∷ raised 0 ∷ []) ∷ (raised 4 ∷ raised 0 ∷ raised 0 ∷ raised 0 ∷ []) ∷ []) ∷ ([]) ∷ ((raised 1 ∷ raised 722035 ∷ raised 23049 ∷ raised_minus 923031 ∷ raised 1 ∷ raised 2 ∷ []) ∷ (raised 2 ∷ raised_minus 794674 ∷ raised 999999 ∷ raised 108542 ∷ raised 999999 ∷ raised 1000000 ∷ []) ∷ (raised 4 ∷ raised_minus 262585 ∷ raised 731597 ∷ raised 1000000 ∷ raised 1 ∷ raised 1000000 ∷ []) ∷ (raised 3 ∷ raised 973468 ∷ raised_minus 1 ∷ raised_minus 938574 ∷ raised 999999 ∷ raised 1000000 ∷ []) ∷ []) ∷ ((raised 4 ∷ raised 1 ∷ raised 2 ∷ raised 9282 ∷ raised 0 ∷ raised 3 ∷ raised 0 ∷ raised 1 ∷ raised 1 ∷ raised 7 ∷ []) ∷ (raised 2 ∷ raised 1 ∷ raised 2 ∷ raised 4004 ∷ raised 2 ∷ raised 1 ∷ raised 1 ∷ raised 4 ∷ raised 2 ∷ raised 1 ∷ []) ∷ (raised 3 ∷ raised 5 ∷ raised 2 ∷ raised 0 ∷ raised 0 ∷ raised 0 ∷ raised 0 ∷ raised 0 ∷ raised 0 ∷ raised 0 ∷ []) ∷ (raised 2 ∷ raised 1 ∷ raised 3 ∷ raised_minus 6000 ∷ raised 0 ∷ raised 12 ∷ raised 0 ∷ raised 3 ∷ raised 0 ∷ raised 0 ∷ []) ∷ (raised 0 ∷ raised 4 ∷ raised 1 ∷ raised 0 ∷ raised 0 ∷ raised 0 ∷ raised 0 ∷ raised 0 ∷ raised 1 ∷ raised 6 ∷ []) ∷ (raised 7 ∷ raised 4 ∷ raised 3 ∷ raised 0 ∷ raised 1 ∷ raised 0 ∷ raised 353 ∷ raised 1 ∷ raised 0 ∷ raised 0 ∷ []) ∷ []) ∷ []; bits = 3198692724 ∷ 1065235681 ∷ []; visiting = []; chosen = 0 ∷ [] };
    }

abbrev pub pair369 : Pair
pair369 =
    record {
      one = record { tables = ((raised 8000 ∷ raised 1 ∷ raised 7 ∷ raised 5 ∷ raised 3 ∷ raised 4004 ∷ []) ∷ []) ∷ ((raised 0 ∷ raised 20136 ∷ raised 1 ∷ []) ∷ (raised 0 ∷ raised 1 ∷ raised 1 ∷ []) ∷ (raised 0 ∷ raised 49943 ∷ raised 1 ∷ []) ∷ (raised 2 ∷ raised 50283477 ∷ raised 1 ∷ []) ∷ []) ∷ ((raised 0 ∷ raised 0 ∷ []) ∷ []) ∷ ((raised_minus 59754 ∷ []) ∷ []) ∷ ((raised 1 ∷ raised 1 ∷ raised_minus 96000 ∷ []) ∷ []) ∷ ((raised 1 ∷ raised 0 ∷ raised 0 ∷ raised 0 ∷ []) ∷ (raised 1 ∷ raised 0 ∷ raised 0 ∷ raised 0 ∷ []) ∷ (raised 1 ∷ raised 11 ∷ raised 0 ∷ raised 1 ∷ []) ∷ (raised 1 ∷ raised 0 ∷ raised 0 ∷ raised 0 ∷ []) ∷ (raised 1 ∷ raised 0 ∷ raised 43 ∷ raised 1 ∷ []) ∷ []) ∷ ((raised_minus 59875 ∷ raised 151875 ∷ raised_minus 146000 ∷ []) ∷ []) ∷ ((raised 1 ∷ raised 84125 ∷ raised_minus 40125 ∷ raised_minus 146000 ∷ raised 22699 ∷ raised 86433 ∷ []) ∷ []) ∷ ((raised 0 ∷ raised 2 ∷ raised 1 ∷ raised 1 ∷ raised 0 ∷ raised 1 ∷ raised 0 ∷ raised 1 ∷ raised 0 ∷ raised 0 ∷ []) ∷ (raised 0 ∷ raised 4 ∷ raised 1 ∷ raised 0 ∷ raised 0 ∷ raised 0 ∷ raised 0 ∷ raised 0 ∷ raised 1 ∷ raised 8 ∷ []) ∷ (raised 1 ∷ raised 3 ∷ raised 1 ∷ raised_minus 60000 ∷ raised 0 ∷ raised 5 ∷ raised 0 ∷ raised 4 ∷ raised 0 ∷ raised 0 ∷ []) ∷ []) ∷ []; bits = []; visiting = 3204794748 ∷ 3191878444 ∷ 3209593916 ∷ 3205132908 ∷ 1058762708 ∷ 1055926046 ∷ 1053130110 ∷ 3183917528 ∷ 3201798340 ∷ 1 ∷ 3205464533 ∷ 1021181376 ∷ 3205202298 ∷ 3210479993 ∷ 1027806336 ∷ 1040012768 ∷ 1039072920 ∷ 3208157241 ∷ 1065353216 ∷ 3192009740 ∷ 1046063472 ∷ 3210017763 ∷ 1057797221 ∷ 3194829492 ∷ 1056964608 ∷ 1053964698 ∷ 3207369762 ∷ 1030361856 ∷ 3165435328 ∷ 1059818084 ∷ 2147483649 ∷ 3196059648 ∷ 1047769532 ∷ 1058998767 ∷ 1051494138 ∷ 1053253056 ∷ 0 ∷ 3185451016 ∷ 3209136992 ∷ 1051255192 ∷ 3197873300 ∷ 1063980481 ∷ 1037698064 ∷ 3190556728 ∷ 0 ∷ 3196499820 ∷ 1033603512 ∷ 1064112449 ∷ 3212825404 ∷ 2147483649 ∷ 1061904024 ∷ 3196466330 ∷ 3189597648 ∷ 2147483648 ∷ 3197941702 ∷ 1060098371 ∷ 3202595132 ∷ 3210905808 ∷ 3197441696 ∷ 3210945823 ∷ 3205217524 ∷ 3179022080 ∷ 3192388104 ∷ 3170476192 ∷ 1063186646 ∷ 3211239936 ∷ 1056964608 ∷ 1057361257 ∷ 1062809090 ∷ 3198511686 ∷ 1062007659 ∷ 1059048638 ∷ 3208901630 ∷ 3201230666 ∷ 3208563211 ∷ 1057801603 ∷ 3196059648 ∷ 1427248 ∷ 1 ∷ 1051604850 ∷ 1061758894 ∷ 1063186760 ∷ 3199004430 ∷ 1059695963 ∷ 3206361612 ∷ 1055306142 ∷ []; chosen = 0 ∷ [] };
      other = record { tables = ((raised 8000 ∷ raised 1 ∷ raised 7 ∷ raised 5 ∷ raised 3 ∷ raised 4004 ∷ []) ∷ []) ∷ ((raised 0 ∷ raised 20136 ∷ raised 1 ∷ []) ∷ (raised 0 ∷ raised 1 ∷ raised 1 ∷ []) ∷ (raised 0 ∷ raised 49943 ∷ raised 1 ∷ []) ∷ (raised 2 ∷ raised 50283477 ∷ raised 1 ∷ []) ∷ []) ∷ ((raised 0 ∷ raised 0 ∷ []) ∷ (raised 1 ∷ raised 0 ∷ []) ∷ (raised 2 ∷ raised_minus 59999 ∷ []) ∷ []) ∷ ((raised_minus 59754 ∷ []) ∷ []) ∷ ((raised 1 ∷ raised 1 ∷ raised_minus 96000 ∷ []) ∷ []) ∷ ([]) ∷ ((raised_minus 59875 ∷ raised 151875 ∷ raised_minus 146000 ∷ []) ∷ []) ∷ ((raised 1 ∷ raised_minus 962382 ∷ raised 999999 ∷ raised 1001 ∷ raised 1 ∷ raised 195868 ∷ []) ∷ []) ∷ ((raised 0 ∷ raised 2 ∷ raised 1 ∷ raised 1 ∷ raised 0 ∷ raised 1 ∷ raised 0 ∷ raised 1 ∷ raised 0 ∷ raised 0 ∷ []) ∷ (raised 0 ∷ raised 4 ∷ raised 1 ∷ raised 0 ∷ raised 0 ∷ raised 0 ∷ raised 0 ∷ raised 0 ∷ raised 1 ∷ raised 8 ∷ []) ∷ (raised 1 ∷ raised 3 ∷ raised 1 ∷ raised_minus 60000 ∷ raised 0 ∷ raised 5 ∷ raised 0 ∷ raised 4 ∷ raised 0 ∷ raised 0 ∷ []) ∷ []) ∷ []; bits = 970289240 ∷ 996926484 ∷ []; visiting = 3167294584 ∷ 1034441464 ∷ 1042916284 ∷ 3181643796 ∷ 3190719143 ∷ 3195053766 ∷ 1037641598 ∷ 3187659316 ∷ 1056964608 ∷ 1040885737 ∷ 1019292872 ∷ 3193696411 ∷ 1023627820 ∷ 3190437371 ∷ 1 ∷ 3191930415 ∷ 3189062822 ∷ 1027041156 ∷ 1038341958 ∷ 1043077709 ∷ 1065353216 ∷ 3190092782 ∷ 1045140370 ∷ 3188965271 ∷ 3192168056 ∷ 3180047662 ∷ 1044125418 ∷ 1023719196 ∷ 1041035971 ∷ 1041312949 ∷ 3169227040 ∷ 1030402880 ∷ 1032867602 ∷ 1027115400 ∷ 3179622964 ∷ 1046818299 ∷ 1043854926 ∷ 1065353216 ∷ 3188620931 ∷ 1044793606 ∷ 1028797308 ∷ 1047230360 ∷ 1044523318 ∷ 1039385728 ∷ 0 ∷ 3173890520 ∷ 3180012954 ∷ 1027455552 ∷ 3168144792 ∷ 3190248539 ∷ 1031231020 ∷ 1048359950 ∷ 1039100386 ∷ 1040614699 ∷ 1006961328 ∷ 1041122193 ∷ 1047738988 ∷ 1040986156 ∷ 3160703824 ∷ 3190713602 ∷ 1045635519 ∷ 1020845680 ∷ 1039716030 ∷ 1019551640 ∷ 1042359509 ∷ 3189930934 ∷ 3196059648 ∷ 1042390279 ∷ 3195930568 ∷ 1028745364 ∷ 3177106672 ∷ 1044712651 ∷ 0 ∷ 1040272419 ∷ 3190441649 ∷ 1011990080 ∷ 3189477759 ∷ 1015912432 ∷ 3171435736 ∷ 1035999090 ∷ 1027735184 ∷ 1042785701 ∷ 1043949539 ∷ 3190530173 ∷ 3190062920 ∷ 3182935256 ∷ 1029880636 ∷ 3186133682 ∷ 3193921781 ∷ 3161145296 ∷ 2147483648 ∷ 3193254161 ∷ 1038176442 ∷ 3164893736 ∷ 3195426291 ∷ 3174351256 ∷ 3175730260 ∷ 1027821936 ∷ 1024305240 ∷ 3186128630 ∷ 1046696576 ∷ 1043939546 ∷ 3193645747 ∷ 1034474086 ∷ 3195619541 ∷ 3178608320 ∷ 1033044702 ∷ 3212836864 ∷ 1045566004 ∷ 1045085650 ∷ 1047426350 ∷ 3169405360 ∷ 3173423792 ∷ 1025308708 ∷ 1047618012 ∷ 1041464180 ∷ 3183926946 ∷ 3177852872 ∷ 1047643699 ∷ 1045424280 ∷ 3158457936 ∷ 1039373588 ∷ 1427248 ∷ 3212836864 ∷ 1032805434 ∷ 3162916240 ∷ 1 ∷ 2147483648 ∷ 3194085487 ∷ 1048469010 ∷ 1047580079 ∷ 3180009016 ∷ 3188945960 ∷ 3212836864 ∷ 1031343612 ∷ 3212836864 ∷ 1 ∷ 3187251230 ∷ 3194432783 ∷ 3167497776 ∷ 3181570944 ∷ 1029109060 ∷ 3212836864 ∷ 3188480666 ∷ 3179089704 ∷ 1042297529 ∷ 1033898878 ∷ 3166447248 ∷ 3193861231 ∷ 3195276288 ∷ 3173510004 ∷ 1028730668 ∷ 3193834032 ∷ 1032057466 ∷ 3163474072 ∷ 3183997068 ∷ []; chosen = 0 ∷ [] };
    }

abbrev pub pair852 : Pair
pair852 =
    record {
      one = record { tables = ((raised 79888 ∷ raised 8 ∷ raised 256 ∷ raised 1 ∷ raised 33 ∷ raised 1 ∷ []) ∷ []) ∷ ((raised 2 ∷ raised 29 ∷ raised 1 ∷ []) ∷ []) ∷ ((raised 0 ∷ raised_minus 96000 ∷ []) ∷ (raised 1 ∷ raised_minus 20000 ∷ []) ∷ (raised 1 ∷ raised 0 ∷ []) ∷ (raised 3 ∷ raised_minus 3000 ∷ []) ∷ (raised 3 ∷ raised_minus 15245 ∷ []) ∷ (raised 4 ∷ raised_minus 20000 ∷ []) ∷ (raised 1 ∷ raised_minus 1 ∷ []) ∷ (raised 3 ∷ raised_minus 1 ∷ []) ∷ (raised 7 ∷ raised 0 ∷ []) ∷ (raised 4 ∷ raised_minus 60001 ∷ []) ∷ (raised 5 ∷ raised_minus 20000 ∷ []) ∷ []) ∷ ((raised 0 ∷ []) ∷ []) ∷ ([]) ∷ ((raised 9 ∷ raised 0 ∷ raised 0 ∷ raised 0 ∷ []) ∷ (raised 9 ∷ raised 0 ∷ raised 0 ∷ raised 0 ∷ []) ∷ []) ∷ ((raised 93250 ∷ raised 179250 ∷ raised 185250 ∷ []) ∷ []) ∷ ((raised 4 ∷ raised 93250 ∷ raised 179250 ∷ raised 185250 ∷ raised 605192 ∷ raised 605193 ∷ []) ∷ []) ∷ ((raised 14 ∷ raised 5 ∷ raised 2 ∷ raised 0 ∷ raised 0 ∷ raised 0 ∷ raised 0 ∷ raised 0 ∷ raised 3 ∷ raised 3 ∷ []) ∷ (raised 31 ∷ raised 5 ∷ raised 11 ∷ raised 0 ∷ raised 1 ∷ raised 0 ∷ raised 1 ∷ raised 2 ∷ raised 1 ∷ raised 6 ∷ []) ∷ []) ∷ []; bits = []; visiting = 1056964608 ∷ 3139956468 ∷ []; chosen = 0 ∷ [] };
      other = record { tables = ((raised 79888 ∷ raised 8 ∷ raised 256 ∷ raised 1 ∷ raised 33 ∷ raised 1 ∷ []) ∷ []) ∷ ((raised 2 ∷ raised 29 ∷ raised 1 ∷ []) ∷ []) ∷ ((raised 0 ∷ raised_minus 96000 ∷ []) ∷ (raised 1 ∷ raised_minus 81541 ∷ []) ∷ (raised 1 ∷ raised_minus 90683 ∷ []) ∷ []) ∷ ((raised 0 ∷ []) ∷ []) ∷ ([]) ∷ ((raised 2 ∷ raised 16 ∷ raised 0 ∷ raised 1 ∷ []) ∷ (raised 3 ∷ raised 0 ∷ raised 0 ∷ raised 1 ∷ []) ∷ []) ∷ ((raised 93250 ∷ raised 179250 ∷ raised 185250 ∷ []) ∷ []) ∷ ((raised 1 ∷ raised_minus 49750 ∷ raised 49250 ∷ raised 159250 ∷ raised 133612 ∷ raised 764139 ∷ []) ∷ (raised 2 ∷ raised 65500 ∷ raised 220875 ∷ raised 268500 ∷ raised 16556 ∷ raised 48480 ∷ []) ∷ (raised 3 ∷ raised 0 ∷ raised 1 ∷ raised_minus 817319 ∷ raised 1 ∷ raised 426157 ∷ []) ∷ []) ∷ ((raised 12 ∷ raised 5 ∷ raised 2 ∷ raised 0 ∷ raised 1 ∷ raised 0 ∷ raised 999 ∷ raised 9 ∷ raised 2 ∷ raised 5 ∷ []) ∷ (raised 27 ∷ raised 1 ∷ raised 3 ∷ raised 1 ∷ raised 0 ∷ raised 0 ∷ raised 0 ∷ raised 0 ∷ raised 1 ∷ raised 4 ∷ []) ∷ (raised 8 ∷ raised 1 ∷ raised 3 ∷ raised 4004 ∷ raised 0 ∷ raised 0 ∷ raised 0 ∷ raised 6 ∷ raised 3 ∷ raised 2 ∷ []) ∷ (raised 0 ∷ raised 5 ∷ raised 3 ∷ raised 0 ∷ raised 0 ∷ raised 0 ∷ raised 0 ∷ raised 18 ∷ raised 2 ∷ raised 6 ∷ []) ∷ (raised 5 ∷ raised 5 ∷ raised 3 ∷ raised 0 ∷ raised 0 ∷ raised 0 ∷ raised 0 ∷ raised 18 ∷ raised 1 ∷ raised 8 ∷ []) ∷ (raised 4 ∷ raised 4 ∷ raised 2 ∷ raised 0 ∷ raised 0 ∷ raised 3600000 ∷ raised 0 ∷ raised 1 ∷ raised 0 ∷ raised 0 ∷ []) ∷ []) ∷ []; bits = []; visiting = 3132156292 ∷ 995965034 ∷ 985765714 ∷ 988184656 ∷ 3142233473 ∷ 3132726878 ∷ 977551824 ∷ 3116183672 ∷ 997088833 ∷ 990899493 ∷ 3144688670 ∷ 3120874168 ∷ 987761984 ∷ 975057432 ∷ 3058403328 ∷ 3143196136 ∷ 3137676502 ∷ 3126579072 ∷ 984437506 ∷ 3120937224 ∷ 2147483648 ∷ 992825749 ∷ 3129090686 ∷ 3138465545 ∷ 959585936 ∷ 3138656339 ∷ 997626655 ∷ 3081012352 ∷ 1065353216 ∷ 985214370 ∷ 995642953 ∷ 984535028 ∷ 3144897699 ∷ 933559296 ∷ 2147483649 ∷ 3128478340 ∷ 3141078846 ∷ 1427248 ∷ 2147483648 ∷ 3142294054 ∷ 925310208 ∷ 1 ∷ 1056964608 ∷ 3138922743 ∷ 3145277869 ∷ 928562944 ∷ 983225514 ∷ 997245992 ∷ 3135902592 ∷ 989402924 ∷ 991536540 ∷ 3121022116 ∷ 993918210 ∷ 3125322688 ∷ 3145160684 ∷ 3143923996 ∷ 992236047 ∷ 3132989142 ∷ 1 ∷ 2147483648 ∷ 997537864 ∷ 3212836864 ∷ 3116595672 ∷ 992791992 ∷ 3140321557 ∷ 950619872 ∷ 3125849040 ∷ 994991834 ∷ 994177797 ∷ 987145060 ∷ 995762383 ∷ 995528182 ∷ 3132658434 ∷ 992969803 ∷ 994674636 ∷ 3114172024 ∷ 992913712 ∷ 994724219 ∷ 992166301 ∷ 982040670 ∷ 995138044 ∷ 3129258354 ∷ 3115442376 ∷ 3119072744 ∷ 3138455949 ∷ 1 ∷ 982576578 ∷ 966861056 ∷ 3128059860 ∷ 3140102091 ∷ 3138421698 ∷ 994085455 ∷ 3115011960 ∷ 3141872137 ∷ 986699024 ∷ 3130184706 ∷ 955157120 ∷ 3138677991 ∷ 3139132489 ∷ 3140133424 ∷ []; chosen = 0 ∷ [] };
    }

abbrev pub pair915 : Pair
pair915 =
    record {
      one = record { tables = ((raised 16000 ∷ raised 6 ∷ raised 100 ∷ raised 24 ∷ raised 2 ∷ raised_minus 94518 ∷ []) ∷ []) ∷ ([]) ∷ ((raised 0 ∷ raised_minus 6021 ∷ []) ∷ (raised 1 ∷ raised 0 ∷ []) ∷ (raised 2 ∷ raised 0 ∷ []) ∷ (raised 0 ∷ raised_minus 63996 ∷ []) ∷ (raised 1 ∷ raised_minus 3000 ∷ []) ∷ (raised 4 ∷ raised_minus 20000 ∷ []) ∷ (raised 6 ∷ raised_minus 6021 ∷ []) ∷ []) ∷ ((raised_minus 6021 ∷ []) ∷ []) ∷ ((raised 4 ∷ raised 1 ∷ raised 0 ∷ []) ∷ (raised 6 ∷ raised 1 ∷ raised_minus 20000 ∷ []) ∷ (raised 3 ∷ raised 1 ∷ raised_minus 63996 ∷ []) ∷ []) ∷ ((raised 7 ∷ raised 0 ∷ raised 5 ∷ raised 0 ∷ []) ∷ []) ∷ ([]) ∷ ((raised 7 ∷ raised 999999 ∷ raised 1 ∷ raised_minus 1000000 ∷ raised 1 ∷ raised 1000000 ∷ []) ∷ []) ∷ ((raised 0 ∷ raised 4 ∷ raised 7 ∷ raised 0 ∷ raised 0 ∷ raised 0 ∷ raised 0 ∷ raised 0 ∷ raised 2 ∷ raised 5 ∷ []) ∷ (raised 1 ∷ raised 4 ∷ raised 6 ∷ raised 0 ∷ raised 0 ∷ raised 0 ∷ raised 0 ∷ raised 0 ∷ raised 0 ∷ raised 0 ∷ []) ∷ (raised 0 ∷ raised 3 ∷ raised 2 ∷ raised_minus 1 ∷ raised 0 ∷ raised 1 ∷ raised 0 ∷ raised 12 ∷ raised 0 ∷ raised 0 ∷ []) ∷ []) ∷ []; bits = 984811062 ∷ 3212836864 ∷ 3140702072 ∷ 940620288 ∷ 3127635412 ∷ 977786856 ∷ 977048660 ∷ 3123182956 ∷ 3129934202 ∷ 994202918 ∷ []; visiting = []; chosen = 6 ∷ [] };
      other = record { tables = ((raised 16000 ∷ raised 6 ∷ raised 100 ∷ raised 24 ∷ raised 2 ∷ raised_minus 94518 ∷ []) ∷ []) ∷ ([]) ∷ ((raised 0 ∷ raised_minus 6021 ∷ []) ∷ (raised 1 ∷ raised 0 ∷ []) ∷ (raised 2 ∷ raised 0 ∷ []) ∷ (raised 0 ∷ raised_minus 63996 ∷ []) ∷ (raised 1 ∷ raised_minus 3000 ∷ []) ∷ (raised 4 ∷ raised_minus 20000 ∷ []) ∷ (raised 6 ∷ raised_minus 6021 ∷ []) ∷ (raised 7 ∷ raised_minus 20700 ∷ []) ∷ []) ∷ ((raised_minus 6021 ∷ []) ∷ []) ∷ ((raised 4 ∷ raised 1 ∷ raised 0 ∷ []) ∷ (raised 8 ∷ raised 1 ∷ raised 18000 ∷ []) ∷ (raised 6 ∷ raised 1 ∷ raised_minus 20000 ∷ []) ∷ (raised 3 ∷ raised 1 ∷ raised_minus 63996 ∷ []) ∷ []) ∷ ((raised 8 ∷ raised 0 ∷ raised 0 ∷ raised 1 ∷ []) ∷ (raised 7 ∷ raised 0 ∷ raised 1 ∷ raised 0 ∷ []) ∷ (raised 7 ∷ raised 0 ∷ raised 1 ∷ raised 0 ∷ []) ∷ (raised 8 ∷ raised 0 ∷ raised 0 ∷ raised 1 ∷ []) ∷ (raised 8 ∷ raised 0 ∷ raised 0 ∷ raised 1 ∷ []) ∷ (raised 8 ∷ raised 0 ∷ raised 0 ∷ raised 1 ∷ []) ∷ []) ∷ ([]) ∷ ((raised 7 ∷ raised_minus 238367 ∷ raised 691728 ∷ raised_minus 1 ∷ raised 1 ∷ raised 2 ∷ []) ∷ []) ∷ ((raised 1 ∷ raised 5 ∷ raised 8 ∷ raised 0 ∷ raised 0 ∷ raised 0 ∷ raised 0 ∷ raised 0 ∷ raised 3 ∷ raised 8 ∷ []) ∷ (raised 0 ∷ raised 4 ∷ raised 7 ∷ raised 0 ∷ raised 0 ∷ raised 0 ∷ raised 0 ∷ raised 0 ∷ raised 2 ∷ raised 5 ∷ []) ∷ (raised 1 ∷ raised 4 ∷ raised 6 ∷ raised 0 ∷ raised 0 ∷ raised 0 ∷ raised 0 ∷ raised 0 ∷ raised 0 ∷ raised 0 ∷ []) ∷ (raised 0 ∷ raised 3 ∷ raised 3 ∷ raised_minus 1 ∷ raised 0 ∷ raised 1 ∷ raised 0 ∷ raised 12 ∷ raised 0 ∷ raised 0 ∷ []) ∷ []) ∷ []; bits = 1064602634 ∷ 3196059648 ∷ []; visiting = []; chosen = 6 ∷ [] };
    }

abbrev pub pair1051 : Pair
pair1051 =
    record {
      one = record { tables = ((raised 75700 ∷ raised 2 ∷ raised 16 ∷ raised 16 ∷ raised 1 ∷ raised_minus 6000 ∷ []) ∷ []) ∷ ((raised 2 ∷ raised 187 ∷ raised 1 ∷ []) ∷ (raised 0 ∷ raised 55099 ∷ raised 1 ∷ []) ∷ []) ∷ ((raised 0 ∷ raised_minus 28537 ∷ []) ∷ (raised 0 ∷ raised 0 ∷ []) ∷ (raised 0 ∷ raised_minus 62836 ∷ []) ∷ (raised 0 ∷ raised 0 ∷ []) ∷ (raised 1 ∷ raised_minus 60000 ∷ []) ∷ []) ∷ ((raised_minus 6540 ∷ []) ∷ []) ∷ ([]) ∷ ((raised 3 ∷ raised 0 ∷ raised 0 ∷ raised 1 ∷ []) ∷ (raised 1 ∷ raised 0 ∷ raised 0 ∷ raised 0 ∷ []) ∷ (raised 3 ∷ raised 0 ∷ raised 0 ∷ raised 1 ∷ []) ∷ (raised 3 ∷ raised 0 ∷ raised 0 ∷ raised 0 ∷ []) ∷ (raised 1 ∷ raised 0 ∷ raised 1 ∷ raised 1 ∷ []) ∷ []) ∷ ((raised 96500 ∷ raised 162250 ∷ raised_minus 117875 ∷ []) ∷ []) ∷ ((raised 3 ∷ raised 96250 ∷ raised 162750 ∷ raised_minus 117375 ∷ raised 363 ∷ raised 1581 ∷ []) ∷ (raised 4 ∷ raised 96500 ∷ raised 162250 ∷ raised_minus 117875 ∷ raised 956910 ∷ raised 972092 ∷ []) ∷ (raised 1 ∷ raised 96500 ∷ raised 162250 ∷ raised_minus 117875 ∷ raised 0 ∷ raised 1 ∷ []) ∷ (raised 5 ∷ raised 44750 ∷ raised 214000 ∷ raised_minus 143750 ∷ raised 6856 ∷ raised 77625 ∷ []) ∷ (raised 2 ∷ raised 96500 ∷ raised 162250 ∷ raised_minus 117875 ∷ raised 42768 ∷ raised 675082 ∷ []) ∷ []) ∷ ((raised 0 ∷ raised 4 ∷ raised 1 ∷ raised 0 ∷ raised 1 ∷ raised 1 ∷ raised 420 ∷ raised 1 ∷ raised 2 ∷ raised 3 ∷ []) ∷ (raised 0 ∷ raised 5 ∷ raised 1 ∷ raised 0 ∷ raised 0 ∷ raised 0 ∷ raised 0 ∷ raised 1 ∷ raised 1 ∷ raised 8 ∷ []) ∷ []) ∷ []; bits = []; visiting = 3143800218 ∷ 974877108 ∷ []; chosen = 2 ∷ [] };
      other = record { tables = ((raised 75700 ∷ raised 2 ∷ raised 16 ∷ raised 16 ∷ raised 1 ∷ raised_minus 6000 ∷ []) ∷ []) ∷ ((raised 2 ∷ raised 187 ∷ raised 1 ∷ []) ∷ (raised 0 ∷ raised 55099 ∷ raised 1 ∷ []) ∷ []) ∷ ((raised 0 ∷ raised_minus 28537 ∷ []) ∷ (raised 0 ∷ raised 0 ∷ []) ∷ (raised 0 ∷ raised_minus 62836 ∷ []) ∷ (raised 0 ∷ raised 0 ∷ []) ∷ (raised 1 ∷ raised_minus 60000 ∷ []) ∷ (raised 3 ∷ raised_minus 3000 ∷ []) ∷ []) ∷ ((raised_minus 6540 ∷ []) ∷ []) ∷ ([]) ∷ ((raised 1 ∷ raised 0 ∷ raised 0 ∷ raised 0 ∷ []) ∷ (raised 1 ∷ raised 0 ∷ raised 1 ∷ raised 1 ∷ []) ∷ []) ∷ ((raised 96500 ∷ raised 162250 ∷ raised_minus 117875 ∷ []) ∷ []) ∷ ((raised 3 ∷ raised_minus 1 ∷ raised 1 ∷ raised 715315 ∷ raised 999999 ∷ raised 1000000 ∷ []) ∷ (raised 4 ∷ raised 96500 ∷ raised 162250 ∷ raised_minus 117875 ∷ raised 956910 ∷ raised 972092 ∷ []) ∷ (raised 1 ∷ raised 96500 ∷ raised 162250 ∷ raised_minus 117875 ∷ raised 0 ∷ raised 1 ∷ []) ∷ (raised 6 ∷ raised 886291 ∷ raised 1000000 ∷ raised_minus 118405 ∷ raised 1 ∷ raised 2 ∷ []) ∷ (raised 5 ∷ raised 44750 ∷ raised 214000 ∷ raised_minus 143750 ∷ raised 6856 ∷ raised 77625 ∷ []) ∷ (raised 2 ∷ raised 96500 ∷ raised 162250 ∷ raised_minus 117875 ∷ raised 42768 ∷ raised 675082 ∷ []) ∷ []) ∷ ((raised 0 ∷ raised 5 ∷ raised 6 ∷ raised 0 ∷ raised 0 ∷ raised 0 ∷ raised 0 ∷ raised 4 ∷ raised 0 ∷ raised 0 ∷ []) ∷ (raised 0 ∷ raised 4 ∷ raised 1 ∷ raised 0 ∷ raised 1 ∷ raised 1 ∷ raised 420 ∷ raised 1 ∷ raised 2 ∷ raised 3 ∷ []) ∷ (raised 0 ∷ raised 5 ∷ raised 1 ∷ raised 0 ∷ raised 0 ∷ raised 0 ∷ raised 0 ∷ raised 1 ∷ raised 1 ∷ raised 8 ∷ []) ∷ (raised 0 ∷ raised 5 ∷ raised 6 ∷ raised 0 ∷ raised 1 ∷ raised 0 ∷ raised 32 ∷ raised 0 ∷ raised 2 ∷ raised 3 ∷ []) ∷ (raised 0 ∷ raised 1 ∷ raised 6 ∷ raised_minus 3000 ∷ raised 0 ∷ raised 2 ∷ raised 0 ∷ raised 1 ∷ raised 2 ∷ raised 1 ∷ []) ∷ []) ∷ []; bits = 1019386708 ∷ 1427248 ∷ []; visiting = 3143800218 ∷ 974877108 ∷ 3140134824 ∷ 3143149574 ∷ 3132919298 ∷ 982082918 ∷ 992505864 ∷ 993810519 ∷ []; chosen = 2 ∷ [] };
    }

abbrev pub pair1102 : Pair
pair1102 =
    record {
      one = record { tables = ((raised 11025 ∷ raised 6 ∷ raised 256 ∷ raised 13 ∷ raised 1 ∷ raised_minus 47524 ∷ []) ∷ []) ∷ ((raised 0 ∷ raised 93 ∷ raised 1 ∷ []) ∷ (raised 0 ∷ raised 131 ∷ raised 1 ∷ []) ∷ (raised 1 ∷ raised 999999 ∷ raised 0 ∷ []) ∷ []) ∷ ((raised 0 ∷ raised_minus 4000 ∷ []) ∷ (raised 0 ∷ raised_minus 96000 ∷ []) ∷ (raised 2 ∷ raised_minus 60000 ∷ []) ∷ (raised 1 ∷ raised_minus 60001 ∷ []) ∷ (raised 4 ∷ raised_minus 14719 ∷ []) ∷ []) ∷ ((raised_minus 45763 ∷ []) ∷ (raised_minus 3000 ∷ []) ∷ (raised_minus 6021 ∷ []) ∷ (raised_minus 63996 ∷ []) ∷ []) ∷ ([]) ∷ ((raised 3 ∷ raised 0 ∷ raised 0 ∷ raised 1 ∷ []) ∷ []) ∷ ((raised 56250 ∷ raised 188500 ∷ raised_minus 178250 ∷ []) ∷ []) ∷ ((raised 5 ∷ raised 37125 ∷ raised 226750 ∷ raised_minus 140000 ∷ raised 57042 ∷ raised 57295 ∷ []) ∷ (raised 2 ∷ raised 0 ∷ raised_minus 890289 ∷ raised 155765 ∷ raised 0 ∷ raised 136198 ∷ []) ∷ []) ∷ ((raised 0 ∷ raised 5 ∷ raised 5 ∷ raised 0 ∷ raised 3 ∷ raised 0 ∷ raised 996 ∷ raised 2 ∷ raised 3 ∷ raised 5 ∷ []) ∷ (raised 0 ∷ raised 1 ∷ raised 3 ∷ raised_minus 14927 ∷ raised 0 ∷ raised 0 ∷ raised 0 ∷ raised 2 ∷ raised 1 ∷ raised 8 ∷ []) ∷ (raised 0 ∷ raised 1 ∷ raised 3 ∷ raised_minus 3000 ∷ raised 0 ∷ raised 2 ∷ raised 0 ∷ raised 1 ∷ raised 3 ∷ raised 8 ∷ []) ∷ (raised 0 ∷ raised 4 ∷ raised 3 ∷ raised 0 ∷ raised 0 ∷ raised 1 ∷ raised 0 ∷ raised 2 ∷ raised 1 ∷ raised 3 ∷ []) ∷ []) ∷ []; bits = 995286886 ∷ 991385693 ∷ 988266330 ∷ 3138858753 ∷ 3141348988 ∷ 3113892360 ∷ 972648336 ∷ 3138995457 ∷ 3141418599 ∷ 990997883 ∷ 3130586150 ∷ 994486976 ∷ 986359278 ∷ 996402801 ∷ 971537720 ∷ 1056964608 ∷ 3196059648 ∷ 966638776 ∷ 993897664 ∷ 985237222 ∷ 3141874224 ∷ 990444614 ∷ 989521614 ∷ 989439012 ∷ 3137794461 ∷ 3137410147 ∷ []; visiting = []; chosen = 1 ∷ [] };
      other = record { tables = ((raised 11025 ∷ raised 6 ∷ raised 256 ∷ raised 13 ∷ raised 1 ∷ raised_minus 47524 ∷ []) ∷ []) ∷ ((raised 0 ∷ raised 93 ∷ raised 1 ∷ []) ∷ (raised 0 ∷ raised 131 ∷ raised 1 ∷ []) ∷ (raised 1 ∷ raised 999999 ∷ raised 0 ∷ []) ∷ []) ∷ ((raised 0 ∷ raised_minus 4000 ∷ []) ∷ (raised 0 ∷ raised_minus 96000 ∷ []) ∷ (raised 1 ∷ raised_minus 60001 ∷ []) ∷ (raised 3 ∷ raised_minus 14719 ∷ []) ∷ []) ∷ ((raised_minus 45763 ∷ []) ∷ (raised_minus 3000 ∷ []) ∷ (raised_minus 6021 ∷ []) ∷ (raised_minus 63996 ∷ []) ∷ []) ∷ ([]) ∷ ((raised 2 ∷ raised 0 ∷ raised 0 ∷ raised 0 ∷ []) ∷ []) ∷ ((raised 56250 ∷ raised 188500 ∷ raised_minus 178250 ∷ []) ∷ []) ∷ ((raised 4 ∷ raised 37125 ∷ raised 226750 ∷ raised_minus 140000 ∷ raised 57042 ∷ raised 57295 ∷ []) ∷ []) ∷ ((raised 0 ∷ raised 5 ∷ raised 4 ∷ raised 0 ∷ raised 3 ∷ raised 0 ∷ raised 996 ∷ raised 2 ∷ raised 3 ∷ raised 5 ∷ []) ∷ []) ∷ []; bits = []; visiting = 3130511538 ∷ 991791625 ∷ []; chosen = 1 ∷ [] };
    }

abbrev pub pair1197 : Pair
pair1197 =
    record {
      one = record { tables = ((raised 22050 ∷ raised 6 ∷ raised 179 ∷ raised 7 ∷ raised 1 ∷ raised_minus 76758 ∷ []) ∷ []) ∷ ([]) ∷ ((raised 0 ∷ raised 0 ∷ []) ∷ (raised 0 ∷ raised_minus 20000 ∷ []) ∷ (raised 0 ∷ raised 1 ∷ []) ∷ (raised 2 ∷ raised_minus 59999 ∷ []) ∷ []) ∷ ((raised 0 ∷ []) ∷ (raised_minus 62633 ∷ []) ∷ (raised_minus 67799 ∷ []) ∷ (raised_minus 3000 ∷ []) ∷ []) ∷ ((raised 4 ∷ raised 1 ∷ raised_minus 20000 ∷ []) ∷ (raised 4 ∷ raised 2 ∷ raised_minus 1 ∷ []) ∷ (raised 4 ∷ raised 3 ∷ raised 0 ∷ []) ∷ (raised 4 ∷ raised 4 ∷ raised_minus 73699 ∷ []) ∷ []) ∷ ((raised 2 ∷ raised 13 ∷ raised 4 ∷ raised 1 ∷ []) ∷ (raised 3 ∷ raised 0 ∷ raised 0 ∷ raised 1 ∷ []) ∷ (raised 0 ∷ raised 0 ∷ raised 1 ∷ raised 1 ∷ []) ∷ (raised 2 ∷ raised 1 ∷ raised 0 ∷ raised 1 ∷ []) ∷ (raised 2 ∷ raised 0 ∷ raised 0 ∷ raised 0 ∷ []) ∷ (raised 4 ∷ raised 0 ∷ raised 17 ∷ raised 1 ∷ []) ∷ []) ∷ ([]) ∷ ((raised 2 ∷ raised 494902 ∷ raised_minus 74562 ∷ raised 482660 ∷ raised 1 ∷ raised 2 ∷ []) ∷ (raised 4 ∷ raised 791359 ∷ raised 898001 ∷ raised 1000000 ∷ raised 327509 ∷ raised 327510 ∷ []) ∷ []) ∷ ((raised 0 ∷ raised 4 ∷ raised 2 ∷ raised 0 ∷ raised 0 ∷ raised 0 ∷ raised 0 ∷ raised 0 ∷ raised 0 ∷ raised 0 ∷ []) ∷ (raised 0 ∷ raised 1 ∷ raised 3 ∷ raised_minus 3000 ∷ raised 0 ∷ raised 0 ∷ raised 0 ∷ raised 3600000 ∷ raised 1 ∷ raised 4 ∷ []) ∷ (raised 0 ∷ raised 1 ∷ raised 3 ∷ raised 0 ∷ raised 0 ∷ raised 0 ∷ raised 0 ∷ raised 32 ∷ raised 1 ∷ raised 8 ∷ []) ∷ (raised 0 ∷ raised 1 ∷ raised 3 ∷ raised 0 ∷ raised 0 ∷ raised 0 ∷ raised 0 ∷ raised 2 ∷ raised 0 ∷ raised 0 ∷ []) ∷ (raised 0 ∷ raised 2 ∷ raised 1 ∷ raised_minus 3000 ∷ raised 0 ∷ raised 0 ∷ raised 0 ∷ raised 3600000 ∷ raised 0 ∷ raised 0 ∷ []) ∷ []) ∷ []; bits = []; visiting = 995421755 ∷ 995801546 ∷ 998035055 ∷ 995849911 ∷ 3128099832 ∷ 992327768 ∷ 3142690732 ∷ 989954219 ∷ 3114982144 ∷ 985214502 ∷ 967271208 ∷ 3092801408 ∷ 3138441339 ∷ 964956240 ∷ 3140417643 ∷ 991692861 ∷ 3134135498 ∷ 983375758 ∷ 3127511444 ∷ 3135117430 ∷ 3125420300 ∷ 988968854 ∷ 990895607 ∷ 988791886 ∷ 3142431168 ∷ 996001296 ∷ 991088539 ∷ 998006013 ∷ 1427248 ∷ 3140851113 ∷ 990391673 ∷ 986308686 ∷ 990565770 ∷ 990698097 ∷ []; chosen = 1 ∷ [] };
      other = record { tables = ((raised 22050 ∷ raised 6 ∷ raised 179 ∷ raised 7 ∷ raised 1 ∷ raised_minus 76758 ∷ []) ∷ []) ∷ ([]) ∷ ((raised 0 ∷ raised 0 ∷ []) ∷ (raised 0 ∷ raised_minus 20000 ∷ []) ∷ (raised 2 ∷ raised 0 ∷ []) ∷ (raised 0 ∷ raised 1 ∷ []) ∷ []) ∷ ((raised 0 ∷ []) ∷ (raised_minus 62633 ∷ []) ∷ (raised_minus 67799 ∷ []) ∷ (raised_minus 3000 ∷ []) ∷ []) ∷ ((raised 3 ∷ raised 3 ∷ raised_minus 60000 ∷ []) ∷ (raised 3 ∷ raised 2 ∷ raised_minus 96000 ∷ []) ∷ (raised 3 ∷ raised 4 ∷ raised_minus 59950 ∷ []) ∷ []) ∷ ((raised 3 ∷ raised 0 ∷ raised 0 ∷ raised 0 ∷ []) ∷ (raised 4 ∷ raised 0 ∷ raised 0 ∷ raised 1 ∷ []) ∷ (raised 3 ∷ raised 0 ∷ raised 0 ∷ raised 0 ∷ []) ∷ (raised 3 ∷ raised 1 ∷ raised 0 ∷ raised 1 ∷ []) ∷ (raised 0 ∷ raised 0 ∷ raised 1 ∷ raised 1 ∷ []) ∷ []) ∷ ([]) ∷ ((raised 2 ∷ raised 999999 ∷ raised 276800 ∷ raised_minus 367312 ∷ raised 1 ∷ raised 1000000 ∷ []) ∷ (raised 3 ∷ raised 0 ∷ raised_minus 802370 ∷ raised 999999 ∷ raised 0 ∷ raised 408678 ∷ []) ∷ []) ∷ ((raised 0 ∷ raised 4 ∷ raised 2 ∷ raised 0 ∷ raised 0 ∷ raised 0 ∷ raised 0 ∷ raised 0 ∷ raised 0 ∷ raised 0 ∷ []) ∷ (raised 0 ∷ raised 1 ∷ raised 4 ∷ raised_minus 3000 ∷ raised 0 ∷ raised 0 ∷ raised 0 ∷ raised 3600000 ∷ raised 1 ∷ raised 4 ∷ []) ∷ (raised 0 ∷ raised 1 ∷ raised 4 ∷ raised 0 ∷ raised 0 ∷ raised 0 ∷ raised 0 ∷ raised 32 ∷ raised 1 ∷ raised 8 ∷ []) ∷ (raised 0 ∷ raised 1 ∷ raised 4 ∷ raised 0 ∷ raised 0 ∷ raised 0 ∷ raised 0 ∷ raised 2 ∷ raised 0 ∷ raised 0 ∷ []) ∷ (raised 0 ∷ raised 2 ∷ raised 1 ∷ raised_minus 3000 ∷ raised 0 ∷ raised 0 ∷ raised 0 ∷ raised 3600000 ∷ raised 0 ∷ raised 0 ∷ []) ∷ []) ∷ []; bits = []; visiting = 995421755 ∷ 995801546 ∷ []; chosen = 1 ∷ [] };
    }

abbrev pub pair1384 : Pair
pair1384 =
    record {
      one = record { tables = ((raised 8000 ∷ raised 8 ∷ raised 7 ∷ raised 13 ∷ raised 1 ∷ raised 0 ∷ []) ∷ []) ∷ ((raised 1 ∷ raised 100000 ∷ raised 1 ∷ []) ∷ []) ∷ ((raised 0 ∷ raised_minus 59999 ∷ []) ∷ (raised 1 ∷ raised_minus 20000 ∷ []) ∷ (raised 2 ∷ raised 0 ∷ []) ∷ (raised 0 ∷ raised 10645 ∷ []) ∷ (raised 4 ∷ raised_minus 28065 ∷ []) ∷ []) ∷ ((raised_minus 3000 ∷ []) ∷ []) ∷ ((raised 5 ∷ raised 1 ∷ raised 0 ∷ []) ∷ []) ∷ ([]) ∷ ([]) ∷ ([]) ∷ ((raised 0 ∷ raised 4 ∷ raised 5 ∷ raised 0 ∷ raised 1 ∷ raised 0 ∷ raised 0 ∷ raised 1 ∷ raised 1 ∷ raised 5 ∷ []) ∷ (raised 0 ∷ raised 3 ∷ raised 1 ∷ raised_minus 6000 ∷ raised 1 ∷ raised 0 ∷ raised 1 ∷ raised 1 ∷ raised 3 ∷ raised 8 ∷ []) ∷ (raised 0 ∷ raised 3 ∷ raised 1 ∷ raised 0 ∷ raised 0 ∷ raised 3 ∷ raised 0 ∷ raised 1 ∷ raised 3 ∷ raised 6 ∷ []) ∷ (raised 0 ∷ raised 4 ∷ raised 5 ∷ raised 0 ∷ raised 0 ∷ raised 0 ∷ raised 0 ∷ raised 2 ∷ raised 2 ∷ raised 4 ∷ []) ∷ (raised 0 ∷ raised 1 ∷ raised 5 ∷ raised_minus 52524 ∷ raised 0 ∷ raised 0 ∷ raised 0 ∷ raised 2 ∷ raised 1 ∷ raised 6 ∷ []) ∷ (raised 0 ∷ raised 4 ∷ raised 5 ∷ raised 0 ∷ raised 1 ∷ raised 1 ∷ raised 0 ∷ raised 1 ∷ raised 0 ∷ raised 0 ∷ []) ∷ (raised 0 ∷ raised 1 ∷ raised 5 ∷ raised_minus 6021 ∷ raised 0 ∷ raised 0 ∷ raised 0 ∷ raised 1 ∷ raised 0 ∷ raised 0 ∷ []) ∷ (raised 0 ∷ raised 4 ∷ raised 4 ∷ raised 0 ∷ raised 0 ∷ raised 0 ∷ raised 0 ∷ raised 0 ∷ raised 0 ∷ raised 0 ∷ []) ∷ (raised 0 ∷ raised 3 ∷ raised 1 ∷ raised 0 ∷ raised 0 ∷ raised 1 ∷ raised 0 ∷ raised 1 ∷ raised 1 ∷ raised 5 ∷ []) ∷ []) ∷ []; bits = []; visiting = 2147483649 ∷ 3202526588 ∷ []; chosen = 3 ∷ [] };
      other = record { tables = ((raised 8000 ∷ raised 8 ∷ raised 7 ∷ raised 13 ∷ raised 1 ∷ raised 0 ∷ []) ∷ []) ∷ ((raised 1 ∷ raised 100000 ∷ raised 1 ∷ []) ∷ []) ∷ ((raised 0 ∷ raised_minus 59999 ∷ []) ∷ (raised 1 ∷ raised_minus 20000 ∷ []) ∷ (raised 2 ∷ raised 0 ∷ []) ∷ (raised 0 ∷ raised 10645 ∷ []) ∷ (raised 4 ∷ raised_minus 59950 ∷ []) ∷ []) ∷ ((raised_minus 3000 ∷ []) ∷ []) ∷ ([]) ∷ ([]) ∷ ([]) ∷ ((raised 4 ∷ raised 1001 ∷ raised_minus 745786 ∷ raised 1000000 ∷ raised 999999 ∷ raised 1000000 ∷ []) ∷ (raised 5 ∷ raised_minus 428706 ∷ raised_minus 1000000 ∷ raised_minus 999999 ∷ raised 241139 ∷ raised 835772 ∷ []) ∷ []) ∷ ((raised 0 ∷ raised 5 ∷ raised 5 ∷ raised 0 ∷ raised 0 ∷ raised 0 ∷ raised 0 ∷ raised 0 ∷ raised 2 ∷ raised 3 ∷ []) ∷ (raised 0 ∷ raised 4 ∷ raised 5 ∷ raised 0 ∷ raised 0 ∷ raised 0 ∷ raised 0 ∷ raised 0 ∷ raised 0 ∷ raised 0 ∷ []) ∷ (raised 0 ∷ raised 5 ∷ raised 5 ∷ raised 0 ∷ raised 0 ∷ raised 0 ∷ raised 0 ∷ raised 3600000 ∷ raised 3 ∷ raised 7 ∷ []) ∷ (raised 0 ∷ raised 4 ∷ raised 4 ∷ raised 0 ∷ raised 0 ∷ raised 0 ∷ raised 0 ∷ raised 0 ∷ raised 0 ∷ raised 0 ∷ []) ∷ []) ∷ []; bits = 3200499934 ∷ 1054409316 ∷ []; visiting = []; chosen = 3 ∷ [] };
    }

abbrev pub pair1844 : Pair
pair1844 =
    record {
      one = record { tables = ((raised 11025 ∷ raised 2 ∷ raised 64 ∷ raised 48 ∷ raised 1 ∷ raised 4004 ∷ []) ∷ []) ∷ ([]) ∷ ((raised 0 ∷ raised_minus 20000 ∷ []) ∷ (raised 0 ∷ raised_minus 60000 ∷ []) ∷ (raised 2 ∷ raised_minus 59999 ∷ []) ∷ []) ∷ ([]) ∷ ([]) ∷ ((raised 2 ∷ raised 0 ∷ raised 0 ∷ raised 0 ∷ []) ∷ (raised 3 ∷ raised 0 ∷ raised 1 ∷ raised 0 ∷ []) ∷ (raised 3 ∷ raised 0 ∷ raised 0 ∷ raised 0 ∷ []) ∷ (raised 2 ∷ raised 0 ∷ raised 0 ∷ raised 1 ∷ []) ∷ (raised 3 ∷ raised 0 ∷ raised 1 ∷ raised 0 ∷ []) ∷ (raised 3 ∷ raised 1 ∷ raised 0 ∷ raised 0 ∷ []) ∷ (raised 3 ∷ raised 0 ∷ raised 0 ∷ raised 1 ∷ []) ∷ (raised 2 ∷ raised 1 ∷ raised 0 ∷ raised 0 ∷ []) ∷ (raised 3 ∷ raised 0 ∷ raised 1 ∷ raised 1 ∷ []) ∷ (raised 3 ∷ raised 1 ∷ raised 0 ∷ raised 1 ∷ []) ∷ []) ∷ ((raised_minus 110750 ∷ raised 123750 ∷ raised 127750 ∷ []) ∷ []) ∷ ((raised 2 ∷ raised_minus 110750 ∷ raised 126250 ∷ raised 129625 ∷ raised 2898 ∷ raised 9997 ∷ []) ∷ (raised 3 ∷ raised 125500 ∷ raised 258750 ∷ raised_minus 7250 ∷ raised 607509 ∷ raised 873432 ∷ []) ∷ (raised 1 ∷ raised_minus 110750 ∷ raised 75250 ∷ raised 91375 ∷ raised 42709 ∷ raised 150038 ∷ []) ∷ []) ∷ ((raised 0 ∷ raised 4 ∷ raised 3 ∷ raised 0 ∷ raised 0 ∷ raised 0 ∷ raised 0 ∷ raised 40 ∷ raised 3 ∷ raised 8 ∷ []) ∷ []) ∷ []; bits = 3129726564 ∷ 997797893 ∷ []; visiting = 3170939008 ∷ 1057886764 ∷ []; chosen = 1 ∷ [] };
      other = record { tables = ((raised 11025 ∷ raised 2 ∷ raised 64 ∷ raised 48 ∷ raised 1 ∷ raised 4004 ∷ []) ∷ []) ∷ ([]) ∷ ((raised 0 ∷ raised_minus 20000 ∷ []) ∷ (raised 0 ∷ raised_minus 60000 ∷ []) ∷ []) ∷ ([]) ∷ ([]) ∷ ([]) ∷ ((raised_minus 110750 ∷ raised 123750 ∷ raised 127750 ∷ []) ∷ []) ∷ ((raised 1 ∷ raised_minus 110750 ∷ raised 75250 ∷ raised 91375 ∷ raised 42709 ∷ raised 150038 ∷ []) ∷ []) ∷ ([]) ∷ []; bits = 3197801716 ∷ 1052053796 ∷ 1061173232 ∷ 1042977552 ∷ 3181594768 ∷ 1059345344 ∷ 1061293035 ∷ 1064882855 ∷ 3203391366 ∷ 2147483648 ∷ 3212448199 ∷ 3208927490 ∷ 3212059212 ∷ 3198894766 ∷ 3210879223 ∷ 1 ∷ 1055575926 ∷ 1065243364 ∷ 1058425257 ∷ 1053935888 ∷ 3210700060 ∷ 1049052452 ∷ 1055057614 ∷ 1030390512 ∷ 3193040324 ∷ 1057109635 ∷ 3205705191 ∷ 3193888740 ∷ 3211941482 ∷ 3211555449 ∷ 3200790828 ∷ 3183048680 ∷ 1062402402 ∷ 3208443147 ∷ 1049446732 ∷ 1060190225 ∷ 1060268298 ∷ 1037159728 ∷ 1050750416 ∷ 2147483649 ∷ []; visiting = 3166477404 ∷ 3163815880 ∷ []; chosen = 1 ∷ [] };
    }

abbrev pub pair1848 : Pair
pair1848 =
    record {
      one = record { tables = ((raised 44100 ∷ raised 2 ∷ raised 100 ∷ raised 8 ∷ raised 1 ∷ raised_minus 6021 ∷ []) ∷ []) ∷ ((raised 0 ∷ raised 57173 ∷ raised 1 ∷ []) ∷ (raised 1 ∷ raised 999999 ∷ raised 1 ∷ []) ∷ (raised 0 ∷ raised 1 ∷ raised 1 ∷ []) ∷ []) ∷ ((raised 0 ∷ raised_minus 6021 ∷ []) ∷ (raised 1 ∷ raised_minus 74210 ∷ []) ∷ (raised 2 ∷ raised 0 ∷ []) ∷ (raised 2 ∷ raised_minus 6000 ∷ []) ∷ (raised 0 ∷ raised 0 ∷ []) ∷ (raised 5 ∷ raised 4004 ∷ []) ∷ (raised 5 ∷ raised 1 ∷ []) ∷ (raised 0 ∷ raised_minus 85016 ∷ []) ∷ (raised 8 ∷ raised_minus 6021 ∷ []) ∷ (raised 0 ∷ raised_minus 6000 ∷ []) ∷ (raised 5 ∷ raised_minus 9009 ∷ []) ∷ []) ∷ ([]) ∷ ([]) ∷ ((raised 8 ∷ raised 0 ∷ raised 0 ∷ raised 0 ∷ []) ∷ (raised 9 ∷ raised 0 ∷ raised 0 ∷ raised 0 ∷ []) ∷ (raised 11 ∷ raised 0 ∷ raised 0 ∷ raised 0 ∷ []) ∷ (raised 8 ∷ raised 0 ∷ raised 0 ∷ raised 1 ∷ []) ∷ (raised 9 ∷ raised 0 ∷ raised 0 ∷ raised 0 ∷ []) ∷ (raised 8 ∷ raised 0 ∷ raised 0 ∷ raised 1 ∷ []) ∷ (raised 11 ∷ raised 0 ∷ raised 0 ∷ raised 1 ∷ []) ∷ []) ∷ ([]) ∷ ([]) ∷ ((raised 0 ∷ raised 4 ∷ raised 11 ∷ raised 0 ∷ raised 0 ∷ raised 0 ∷ raised 0 ∷ raised 0 ∷ raised 2 ∷ raised 1 ∷ []) ∷ []) ∷ []; bits = []; visiting = []; chosen = 7 ∷ 10 ∷ [] };
      other = record { tables = ((raised 44100 ∷ raised 2 ∷ raised 100 ∷ raised 8 ∷ raised 1 ∷ raised_minus 6021 ∷ []) ∷ []) ∷ ((raised 0 ∷ raised 57173 ∷ raised 1 ∷ []) ∷ (raised 1 ∷ raised 999999 ∷ raised 1 ∷ []) ∷ (raised 0 ∷ raised 1 ∷ raised 1 ∷ []) ∷ []) ∷ ((raised 0 ∷ raised_minus 6021 ∷ []) ∷ (raised 1 ∷ raised_minus 74210 ∷ []) ∷ (raised 2 ∷ raised 0 ∷ []) ∷ (raised 2 ∷ raised_minus 6000 ∷ []) ∷ (raised 0 ∷ raised 0 ∷ []) ∷ (raised 5 ∷ raised 4004 ∷ []) ∷ (raised 5 ∷ raised 1 ∷ []) ∷ (raised 0 ∷ raised_minus 85016 ∷ []) ∷ (raised 0 ∷ raised_minus 6000 ∷ []) ∷ (raised 5 ∷ raised_minus 9009 ∷ []) ∷ (raised 10 ∷ raised 0 ∷ []) ∷ []) ∷ ([]) ∷ ([]) ∷ ([]) ∷ ([]) ∷ ((raised 8 ∷ raised 122908 ∷ raised 1 ∷ raised_minus 1 ∷ raised 1 ∷ raised 1000000 ∷ []) ∷ (raised 10 ∷ raised 466447 ∷ raised_minus 428358 ∷ raised 1001 ∷ raised 1 ∷ raised 1000000 ∷ []) ∷ (raised 11 ∷ raised 415070 ∷ raised 0 ∷ raised 999999 ∷ raised 0 ∷ raised 1000000 ∷ []) ∷ []) ∷ ((raised 0 ∷ raised 1 ∷ raised 11 ∷ raised 0 ∷ raised 0 ∷ raised 12 ∷ raised 0 ∷ raised 8 ∷ raised 1 ∷ raised 3 ∷ []) ∷ (raised 0 ∷ raised 1 ∷ raised 11 ∷ raised_minus 59950 ∷ raised 0 ∷ raised 1 ∷ raised 0 ∷ raised 2 ∷ raised 3 ∷ raised 4 ∷ []) ∷ (raised 0 ∷ raised 4 ∷ raised 10 ∷ raised 0 ∷ raised 0 ∷ raised 0 ∷ raised 0 ∷ raised 0 ∷ raised 2 ∷ raised 1 ∷ []) ∷ (raised 0 ∷ raised 1 ∷ raised 11 ∷ raised 4004 ∷ raised 0 ∷ raised 3600000 ∷ raised 0 ∷ raised 1 ∷ raised 3 ∷ raised 7 ∷ []) ∷ []) ∷ []; bits = 3122384224 ∷ 3135817818 ∷ 973619588 ∷ 965584272 ∷ 3134672114 ∷ 3141170829 ∷ 976852404 ∷ 3141622183 ∷ 992233267 ∷ 977950236 ∷ 982325076 ∷ 3114374664 ∷ 3142527744 ∷ 987139228 ∷ 996804496 ∷ 3135884312 ∷ 2147483649 ∷ 3118557248 ∷ 996046678 ∷ 3212836864 ∷ 978249144 ∷ 994049858 ∷ 1065353216 ∷ 3144948324 ∷ 974651040 ∷ 973064568 ∷ 993263914 ∷ 996488946 ∷ 997761861 ∷ 982243034 ∷ 3129567864 ∷ 981390212 ∷ 993098655 ∷ 989662340 ∷ 985505402 ∷ 990683316 ∷ 3130666698 ∷ 995435744 ∷ 981476420 ∷ 3133762558 ∷ 3143563938 ∷ 2147483649 ∷ 3136506278 ∷ 982523058 ∷ 989699748 ∷ 3136346614 ∷ 993987900 ∷ 3139706240 ∷ 3132448176 ∷ 2147483649 ∷ 970740072 ∷ 2147483649 ∷ 979727628 ∷ 976744956 ∷ 997640377 ∷ 3131746192 ∷ 3113688432 ∷ 983059958 ∷ 1065353216 ∷ 3129048894 ∷ 1056964608 ∷ 974088128 ∷ 974433636 ∷ 3125647128 ∷ 988616532 ∷ 996045720 ∷ 994275189 ∷ 984382350 ∷ 990069609 ∷ 3143917455 ∷ 951538848 ∷ 3131524636 ∷ 991830554 ∷ 991472631 ∷ 3093994432 ∷ 3138065095 ∷ 3139735002 ∷ 3106972064 ∷ 3196059648 ∷ 3138010841 ∷ 982467652 ∷ 971122968 ∷ 958675696 ∷ 3138455761 ∷ 995857124 ∷ 3143802396 ∷ 962109040 ∷ 3135016286 ∷ 3124067824 ∷ 995312665 ∷ 980578296 ∷ 977486964 ∷ 997036788 ∷ 980689140 ∷ 3133897274 ∷ 992828784 ∷ 3143610114 ∷ 973654224 ∷ 3122970712 ∷ 2147483648 ∷ 996951845 ∷ 3140246231 ∷ 992357250 ∷ 982349060 ∷ 989814858 ∷ 977181004 ∷ []; visiting = 3189209447 ∷ 1047109433 ∷ []; chosen = 7 ∷ 9 ∷ [] };
    }

abbrev pub pair1997 : Pair
pair1997 =
    record {
      one = record { tables = ((raised 15927 ∷ raised 2 ∷ raised 185 ∷ raised 5 ∷ raised 1 ∷ raised_minus 6000 ∷ []) ∷ []) ∷ ([]) ∷ ((raised 0 ∷ raised 0 ∷ []) ∷ (raised 1 ∷ raised 0 ∷ []) ∷ (raised 1 ∷ raised_minus 60000 ∷ []) ∷ []) ∷ ((raised 1 ∷ []) ∷ []) ∷ ((raised 2 ∷ raised 1 ∷ raised 18000 ∷ []) ∷ (raised 1 ∷ raised 1 ∷ raised_minus 20000 ∷ []) ∷ []) ∷ ((raised 1 ∷ raised 0 ∷ raised 0 ∷ raised 1 ∷ []) ∷ []) ∷ ((raised 15000 ∷ raised_minus 111875 ∷ raised 98750 ∷ []) ∷ []) ∷ ((raised 1 ∷ raised 1000000 ∷ raised_minus 1000000 ∷ raised 0 ∷ raised 999999 ∷ raised 1000000 ∷ []) ∷ []) ∷ ((raised 0 ∷ raised 4 ∷ raised 1 ∷ raised 0 ∷ raised 0 ∷ raised 0 ∷ raised 0 ∷ raised 0 ∷ raised 1 ∷ raised 5 ∷ []) ∷ (raised 0 ∷ raised 5 ∷ raised 2 ∷ raised 0 ∷ raised 0 ∷ raised 0 ∷ raised 0 ∷ raised 0 ∷ raised 0 ∷ raised 0 ∷ []) ∷ (raised 0 ∷ raised 5 ∷ raised 2 ∷ raised 0 ∷ raised 0 ∷ raised 0 ∷ raised 0 ∷ raised 1 ∷ raised 3 ∷ raised 8 ∷ []) ∷ (raised 0 ∷ raised 1 ∷ raised 1 ∷ raised_minus 1 ∷ raised 0 ∷ raised 0 ∷ raised 0 ∷ raised 55 ∷ raised 1 ∷ raised 8 ∷ []) ∷ []) ∷ []; bits = []; visiting = 3188796728 ∷ 3204672809 ∷ []; chosen = 0 ∷ [] };
      other = record { tables = ((raised 15927 ∷ raised 2 ∷ raised 185 ∷ raised 5 ∷ raised 1 ∷ raised_minus 6000 ∷ []) ∷ []) ∷ ([]) ∷ ((raised 0 ∷ raised 0 ∷ []) ∷ []) ∷ ((raised 1 ∷ []) ∷ []) ∷ ((raised 1 ∷ raised 1 ∷ raised_minus 20000 ∷ []) ∷ []) ∷ ((raised 1 ∷ raised 0 ∷ raised 0 ∷ raised 1 ∷ []) ∷ (raised 1 ∷ raised 1 ∷ raised 0 ∷ raised 1 ∷ []) ∷ (raised 1 ∷ raised 0 ∷ raised 0 ∷ raised 0 ∷ []) ∷ (raised 1 ∷ raised 0 ∷ raised 1 ∷ raised 0 ∷ []) ∷ []) ∷ ((raised 15000 ∷ raised_minus 111875 ∷ raised 98750 ∷ []) ∷ []) ∷ ([]) ∷ ((raised 0 ∷ raised 4 ∷ raised 1 ∷ raised 0 ∷ raised 0 ∷ raised 0 ∷ raised 0 ∷ raised 0 ∷ raised 1 ∷ raised 5 ∷ []) ∷ (raised 0 ∷ raised 1 ∷ raised 1 ∷ raised_minus 1 ∷ raised 0 ∷ raised 0 ∷ raised 0 ∷ raised 55 ∷ raised 1 ∷ raised 8 ∷ []) ∷ []) ∷ []; bits = 3196040160 ∷ 3187989244 ∷ []; visiting = 3132732608 ∷ 995786305 ∷ []; chosen = 0 ∷ [] };
    }

abbrev pub pair2836 : Pair
pair2836 =
    record {
      one = record { tables = ((raised 48000 ∷ raised 1 ∷ raised 66 ∷ raised 6 ∷ raised 6 ∷ raised_minus 20000 ∷ []) ∷ []) ∷ ((raised 1 ∷ raised 38 ∷ raised 1 ∷ []) ∷ []) ∷ ((raised 0 ∷ raised 4004 ∷ []) ∷ (raised 0 ∷ raised 4004 ∷ []) ∷ (raised 2 ∷ raised_minus 89043 ∷ []) ∷ []) ∷ ([]) ∷ ([]) ∷ ((raised 1 ∷ raised 1 ∷ raised 0 ∷ raised 1 ∷ []) ∷ (raised 3 ∷ raised 1 ∷ raised 32 ∷ raised 0 ∷ []) ∷ (raised 1 ∷ raised 0 ∷ raised 0 ∷ raised 1 ∷ []) ∷ []) ∷ ((raised 854827 ∷ raised 18380 ∷ raised_minus 999999 ∷ []) ∷ []) ∷ ((raised 1 ∷ raised 854827 ∷ raised 18380 ∷ raised_minus 999999 ∷ raised 339406 ∷ raised 339407 ∷ []) ∷ (raised 2 ∷ raised 288166 ∷ raised_minus 807866 ∷ raised_minus 1000000 ∷ raised 1 ∷ raised 2 ∷ []) ∷ []) ∷ ((raised 3 ∷ raised 1 ∷ raised 1 ∷ raised 0 ∷ raised 0 ∷ raised 0 ∷ raised 0 ∷ raised 0 ∷ raised 0 ∷ raised 0 ∷ []) ∷ (raised 0 ∷ raised 4 ∷ raised 1 ∷ raised 0 ∷ raised 0 ∷ raised 0 ∷ raised 0 ∷ raised 0 ∷ raised 2 ∷ raised 6 ∷ []) ∷ []) ∷ []; bits = 1025168428 ∷ 1034496246 ∷ 1044401530 ∷ 3190778777 ∷ 1039535026 ∷ 1035688472 ∷ 1016141704 ∷ 3178055284 ∷ 3195961891 ∷ 3191613046 ∷ 3192266296 ∷ 1032655956 ∷ 1011642928 ∷ 1027553920 ∷ 1045294650 ∷ 1026094028 ∷ 3192530830 ∷ 3175337200 ∷ 3212836864 ∷ 2147483648 ∷ 1038517340 ∷ 3188540189 ∷ 3192400516 ∷ 1030656264 ∷ 1047585041 ∷ 3180937294 ∷ 1043185496 ∷ 3190405199 ∷ 3182324018 ∷ 1025662028 ∷ 3193131134 ∷ 3181646128 ∷ 3193783239 ∷ 1046033990 ∷ 3195156117 ∷ 1040923794 ∷ 3188940961 ∷ 1040401697 ∷ 1044844297 ∷ 3196039739 ∷ 1019165224 ∷ 1041846302 ∷ 3176443332 ∷ 3190802151 ∷ 3187734328 ∷ 1039300464 ∷ 1033660872 ∷ 3192580911 ∷ 1039395312 ∷ 1026479160 ∷ 3183558632 ∷ 2147483648 ∷ 3191734887 ∷ 3186683404 ∷ 3179386824 ∷ 1427248 ∷ 3191556318 ∷ 3172346876 ∷ 1042372048 ∷ 3193500657 ∷ 1040806068 ∷ 1427248 ∷ 1043825938 ∷ 1038910814 ∷ 3193037499 ∷ 3182155040 ∷ []; visiting = 1048503729 ∷ 1045132519 ∷ []; chosen = 0 ∷ 2 ∷ [] };
      other = record { tables = ((raised 48000 ∷ raised 1 ∷ raised 66 ∷ raised 6 ∷ raised 6 ∷ raised_minus 20000 ∷ []) ∷ []) ∷ ((raised 1 ∷ raised 38 ∷ raised 1 ∷ []) ∷ []) ∷ ((raised 0 ∷ raised 4004 ∷ []) ∷ (raised 0 ∷ raised 4004 ∷ []) ∷ (raised 2 ∷ raised_minus 89043 ∷ []) ∷ []) ∷ ([]) ∷ ([]) ∷ ((raised 3 ∷ raised 0 ∷ raised 1 ∷ raised 1 ∷ []) ∷ []) ∷ ((raised 854827 ∷ raised 18380 ∷ raised_minus 999999 ∷ []) ∷ []) ∷ ((raised 3 ∷ raised_minus 1000000 ∷ raised_minus 1 ∷ raised 1 ∷ raised 999999 ∷ raised 1000000 ∷ []) ∷ (raised 2 ∷ raised 288166 ∷ raised_minus 807866 ∷ raised_minus 1000000 ∷ raised 1 ∷ raised 2 ∷ []) ∷ []) ∷ ((raised 3 ∷ raised 1 ∷ raised 1 ∷ raised 0 ∷ raised 0 ∷ raised 0 ∷ raised 0 ∷ raised 0 ∷ raised 0 ∷ raised 0 ∷ []) ∷ (raised 0 ∷ raised 4 ∷ raised 1 ∷ raised 0 ∷ raised 0 ∷ raised 0 ∷ raised 0 ∷ raised 0 ∷ raised 2 ∷ raised 6 ∷ []) ∷ []) ∷ []; bits = 1049045072 ∷ 3182191216 ∷ []; visiting = 3165677453 ∷ 3168296297 ∷ []; chosen = 0 ∷ 2 ∷ [] };
    }

abbrev pub pair4370 : Pair
pair4370 =
    record {
      one = record { tables = ((raised 16000 ∷ raised 7 ∷ raised 3 ∷ raised 1 ∷ raised 1 ∷ raised 1 ∷ []) ∷ []) ∷ ((raised 2 ∷ raised 55012493 ∷ raised 1 ∷ []) ∷ (raised 0 ∷ raised 32 ∷ raised 1 ∷ []) ∷ (raised 0 ∷ raised 1 ∷ raised 1 ∷ []) ∷ (raised 1 ∷ raised 100000 ∷ raised 1 ∷ []) ∷ []) ∷ ((raised 0 ∷ raised_minus 1 ∷ []) ∷ (raised 0 ∷ raised_minus 60000 ∷ []) ∷ (raised 1 ∷ raised_minus 70521 ∷ []) ∷ (raised 1 ∷ raised_minus 39029 ∷ []) ∷ []) ∷ ((raised_minus 36332 ∷ []) ∷ (raised_minus 6021 ∷ []) ∷ (raised_minus 6000 ∷ []) ∷ (raised_minus 79512 ∷ []) ∷ []) ∷ ((raised 1 ∷ raised 3 ∷ raised 1 ∷ []) ∷ (raised 1 ∷ raised 2 ∷ raised_minus 1 ∷ []) ∷ (raised 4 ∷ raised 2 ∷ raised_minus 6000 ∷ []) ∷ []) ∷ ((raised 2 ∷ raised 8 ∷ raised 26 ∷ raised 1 ∷ []) ∷ []) ∷ ([]) ∷ ((raised 2 ∷ raised 422850 ∷ raised_minus 232759 ∷ raised_minus 849257 ∷ raised 0 ∷ raised 1000000 ∷ []) ∷ (raised 4 ∷ raised_minus 999999 ∷ raised 1 ∷ raised_minus 999999 ∷ raised 999999 ∷ raised 1000000 ∷ []) ∷ (raised 3 ∷ raised 1001 ∷ raised_minus 999999 ∷ raised 1000000 ∷ raised 999999 ∷ raised 1000000 ∷ []) ∷ (raised 1 ∷ raised_minus 999999 ∷ raised 1000000 ∷ raised_minus 1000000 ∷ raised 1 ∷ raised 1000000 ∷ []) ∷ []) ∷ ((raised 0 ∷ raised 4 ∷ raised 1 ∷ raised 0 ∷ raised 0 ∷ raised 0 ∷ raised 0 ∷ raised 0 ∷ raised 3 ∷ raised 6 ∷ []) ∷ (raised 0 ∷ raised 4 ∷ raised 2 ∷ raised 0 ∷ raised 0 ∷ raised 0 ∷ raised 0 ∷ raised 0 ∷ raised 2 ∷ raised 3 ∷ []) ∷ (raised 0 ∷ raised 1 ∷ raised 4 ∷ raised_minus 3000 ∷ raised 2 ∷ raised 1 ∷ raised 1 ∷ raised 3600000 ∷ raised 2 ∷ raised 5 ∷ []) ∷ []) ∷ []; bits = 992097618 ∷ 959405360 ∷ 995548342 ∷ 992062515 ∷ 975139356 ∷ 960307600 ∷ 3130547248 ∷ 3145395465 ∷ 3138656445 ∷ 975263708 ∷ 990945907 ∷ 994018892 ∷ 985823376 ∷ 972818608 ∷ 3134000214 ∷ 997034846 ∷ 995298419 ∷ 3137181636 ∷ 3141636109 ∷ 3143531884 ∷ 1065353216 ∷ 3145295752 ∷ 971355696 ∷ 979293296 ∷ 967367632 ∷ 986853490 ∷ 997891984 ∷ 3141936420 ∷ 1065353216 ∷ 3136599424 ∷ 3126682240 ∷ 998130553 ∷ 3138509875 ∷ 997199672 ∷ 987319276 ∷ 3136720360 ∷ 979886592 ∷ 3134266950 ∷ 3109225968 ∷ 993669700 ∷ 3137696471 ∷ 976441172 ∷ 1427248 ∷ 3143739549 ∷ 3143629861 ∷ 3133087900 ∷ 982077072 ∷ 3098295136 ∷ 3196059648 ∷ 961518992 ∷ 987316950 ∷ 1056964608 ∷ 985075250 ∷ 1 ∷ 1427248 ∷ 982494288 ∷ 991834557 ∷ 991814989 ∷ 981019028 ∷ 996511884 ∷ 997975219 ∷ 995537397 ∷ 3124667556 ∷ 3145697800 ∷ 967148120 ∷ 3126760876 ∷ 982792784 ∷ 991075738 ∷ 3143786306 ∷ 994951846 ∷ 982782688 ∷ 997475718 ∷ 984672504 ∷ 995960866 ∷ 3141321085 ∷ 3142664372 ∷ 3141793029 ∷ 3116274552 ∷ 3145118235 ∷ 3117024440 ∷ 3137609452 ∷ 3131378148 ∷ 996773156 ∷ 2147483649 ∷ 3141789783 ∷ 3143965066 ∷ 975974664 ∷ 3105351872 ∷ 3118132736 ∷ 3131239206 ∷ []; visiting = 1050800570 ∷ 1056315836 ∷ 3209172882 ∷ 3186840440 ∷ 3211464188 ∷ 1058626589 ∷ 1040431856 ∷ 3197016086 ∷ 1047756628 ∷ 3205195007 ∷ 1056061574 ∷ 1050440054 ∷ 3207136038 ∷ 1060021715 ∷ 3209339035 ∷ 1060660529 ∷ 3212836864 ∷ 3197412904 ∷ 1059380309 ∷ 3209461992 ∷ 3199628150 ∷ 3211867664 ∷ 3199078190 ∷ 1054528588 ∷ 3203008704 ∷ 3209678687 ∷ 1050013780 ∷ 3212618289 ∷ 3212042733 ∷ 1049693054 ∷ 1064405329 ∷ 1 ∷ 0 ∷ 1065008617 ∷ 1054286502 ∷ 3202190346 ∷ 1056237156 ∷ 1062811786 ∷ 3207009352 ∷ 1048401964 ∷ 3185375520 ∷ 1062369794 ∷ 3198707560 ∷ 3180753240 ∷ 1058964195 ∷ 3159101120 ∷ 1053762638 ∷ 3206335043 ∷ 3203945822 ∷ 3209375181 ∷ 3211108164 ∷ 3208183893 ∷ 1052320446 ∷ 1053896798 ∷ 1057720026 ∷ 1044096352 ∷ 3194515068 ∷ 1047489836 ∷ 1056249852 ∷ 1053953598 ∷ 3194978416 ∷ 3206164555 ∷ 3182825496 ∷ 1061884560 ∷ 3211513970 ∷ 1023867232 ∷ 3211970861 ∷ 3205900826 ∷ []; chosen = 0 ∷ 1 ∷ [] };
      other = record { tables = ((raised 16000 ∷ raised 7 ∷ raised 3 ∷ raised 1 ∷ raised 1 ∷ raised 1 ∷ []) ∷ []) ∷ ((raised 2 ∷ raised 55012493 ∷ raised 1 ∷ []) ∷ (raised 0 ∷ raised 32 ∷ raised 1 ∷ []) ∷ (raised 0 ∷ raised 1 ∷ raised 1 ∷ []) ∷ (raised 1 ∷ raised 100000 ∷ raised 1 ∷ []) ∷ []) ∷ ((raised 0 ∷ raised_minus 1 ∷ []) ∷ (raised 1 ∷ raised_minus 41327 ∷ []) ∷ (raised 0 ∷ raised_minus 60000 ∷ []) ∷ []) ∷ ((raised_minus 36332 ∷ []) ∷ (raised_minus 6021 ∷ []) ∷ (raised_minus 6000 ∷ []) ∷ (raised_minus 79512 ∷ []) ∷ []) ∷ ((raised 2 ∷ raised 4 ∷ raised_minus 1 ∷ []) ∷ (raised 2 ∷ raised 3 ∷ raised 0 ∷ []) ∷ (raised 1 ∷ raised 3 ∷ raised 1 ∷ []) ∷ (raised 2 ∷ raised 2 ∷ raised 0 ∷ []) ∷ (raised 2 ∷ raised 1 ∷ raised_minus 6000 ∷ []) ∷ (raised 1 ∷ raised 2 ∷ raised_minus 1 ∷ []) ∷ []) ∷ ([]) ∷ ([]) ∷ ((raised 1 ∷ raised 1000000 ∷ raised_minus 206467 ∷ raised 567238 ∷ raised 0 ∷ raised 1 ∷ []) ∷ (raised 2 ∷ raised 1000000 ∷ raised 1 ∷ raised_minus 945575 ∷ raised 1 ∷ raised 1000000 ∷ []) ∷ (raised 3 ∷ raised_minus 919548 ∷ raised_minus 246667 ∷ raised_minus 289586 ∷ raised 1 ∷ raised 2 ∷ []) ∷ []) ∷ ((raised 0 ∷ raised 4 ∷ raised 1 ∷ raised 0 ∷ raised 0 ∷ raised 0 ∷ raised 0 ∷ raised 0 ∷ raised 3 ∷ raised 6 ∷ []) ∷ (raised 0 ∷ raised 1 ∷ raised 2 ∷ raised 10721 ∷ raised 1 ∷ raised 0 ∷ raised 0 ∷ raised 1 ∷ raised 2 ∷ raised 5 ∷ []) ∷ (raised 0 ∷ raised 4 ∷ raised 3 ∷ raised 0 ∷ raised 0 ∷ raised 0 ∷ raised 0 ∷ raised 0 ∷ raised 2 ∷ raised 3 ∷ []) ∷ []) ∷ []; bits = []; visiting = 3194169426 ∷ 3190333357 ∷ 3185073308 ∷ 3192529982 ∷ []; chosen = 0 ∷ 2 ∷ [] };
    }

abbrev pub pair5855 : Pair
pair5855 =
    record {
      one = record { tables = ((raised 133288 ∷ raised 4 ∷ raised 16 ∷ raised 5 ∷ raised 1 ∷ raised 0 ∷ []) ∷ []) ∷ ((raised 0 ∷ raised 25440 ∷ raised 0 ∷ []) ∷ []) ∷ ((raised 0 ∷ raised_minus 63996 ∷ []) ∷ []) ∷ ((raised 0 ∷ []) ∷ (raised_minus 3000 ∷ []) ∷ []) ∷ ([]) ∷ ((raised 0 ∷ raised 0 ∷ raised 0 ∷ raised 0 ∷ []) ∷ (raised 0 ∷ raised 0 ∷ raised 0 ∷ raised 1 ∷ []) ∷ (raised 1 ∷ raised 1 ∷ raised 1 ∷ raised 0 ∷ []) ∷ (raised 0 ∷ raised 2 ∷ raised 2 ∷ raised 0 ∷ []) ∷ []) ∷ ((raised 75500 ∷ raised_minus 8000 ∷ raised_minus 23875 ∷ []) ∷ []) ∷ ((raised 1 ∷ raised 75500 ∷ raised_minus 8000 ∷ raised 23875 ∷ raised 36396 ∷ raised 186349 ∷ []) ∷ []) ∷ ((raised 0 ∷ raised 0 ∷ raised 0 ∷ raised 0 ∷ raised 1 ∷ raised 0 ∷ raised 999 ∷ raised 3 ∷ raised 2 ∷ raised 7 ∷ []) ∷ (raised 0 ∷ raised 0 ∷ raised 0 ∷ raised 1 ∷ raised 0 ∷ raised 0 ∷ raised 0 ∷ raised 2 ∷ raised 2 ∷ raised 8 ∷ []) ∷ (raised 0 ∷ raised 2 ∷ raised 1 ∷ raised_minus 59999 ∷ raised 0 ∷ raised 2 ∷ raised 0 ∷ raised 1 ∷ raised 2 ∷ raised 6 ∷ []) ∷ (raised 0 ∷ raised 0 ∷ raised 0 ∷ raised_minus 6000 ∷ raised 0 ∷ raised 2 ∷ raised 0 ∷ raised 3600000 ∷ raised 3 ∷ raised 2 ∷ []) ∷ (raised 0 ∷ raised 2 ∷ raised 1 ∷ raised 0 ∷ raised 1 ∷ raised 0 ∷ raised 311 ∷ raised 1 ∷ raised 1 ∷ raised 4 ∷ []) ∷ []) ∷ []; bits = 3205931677 ∷ 3208460835 ∷ 973754128 ∷ 3128155796 ∷ 986069298 ∷ 965201768 ∷ 3125576628 ∷ 1 ∷ 3208962779 ∷ 1061506959 ∷ []; visiting = 3203549244 ∷ 1037655032 ∷ []; chosen = [] };
      other = record { tables = ((raised 133288 ∷ raised 4 ∷ raised 16 ∷ raised 5 ∷ raised 1 ∷ raised 0 ∷ []) ∷ []) ∷ ((raised 0 ∷ raised 25440 ∷ raised 0 ∷ []) ∷ []) ∷ ((raised 0 ∷ raised_minus 63996 ∷ []) ∷ []) ∷ ((raised 0 ∷ []) ∷ (raised_minus 3000 ∷ []) ∷ []) ∷ ([]) ∷ ((raised 0 ∷ raised 0 ∷ raised 0 ∷ raised 0 ∷ []) ∷ (raised 0 ∷ raised 0 ∷ raised 0 ∷ raised 1 ∷ []) ∷ (raised 1 ∷ raised 1 ∷ raised 1 ∷ raised 0 ∷ []) ∷ (raised 0 ∷ raised 2 ∷ raised 2 ∷ raised 0 ∷ []) ∷ []) ∷ ((raised 75500 ∷ raised_minus 8000 ∷ raised_minus 23875 ∷ []) ∷ []) ∷ ((raised 1 ∷ raised 75500 ∷ raised_minus 8000 ∷ raised 23875 ∷ raised 36396 ∷ raised 186349 ∷ []) ∷ []) ∷ ((raised 0 ∷ raised 0 ∷ raised 0 ∷ raised 0 ∷ raised 1 ∷ raised 0 ∷ raised 999 ∷ raised 3 ∷ raised 2 ∷ raised 7 ∷ []) ∷ (raised 0 ∷ raised 0 ∷ raised 0 ∷ raised 1 ∷ raised 0 ∷ raised 0 ∷ raised 0 ∷ raised 2 ∷ raised 2 ∷ raised 8 ∷ []) ∷ (raised 0 ∷ raised 2 ∷ raised 1 ∷ raised_minus 59999 ∷ raised 0 ∷ raised 2 ∷ raised 0 ∷ raised 1 ∷ raised 2 ∷ raised 6 ∷ []) ∷ (raised 0 ∷ raised 0 ∷ raised 0 ∷ raised_minus 6000 ∷ raised 0 ∷ raised 2 ∷ raised 0 ∷ raised 3600000 ∷ raised 3 ∷ raised 2 ∷ []) ∷ (raised 0 ∷ raised 2 ∷ raised 1 ∷ raised 0 ∷ raised 1 ∷ raised 0 ∷ raised 311 ∷ raised 1 ∷ raised 1 ∷ raised 4 ∷ []) ∷ []) ∷ []; bits = 3159186876 ∷ 3129259536 ∷ 973754128 ∷ 3128155796 ∷ 986069298 ∷ 965201768 ∷ 3125576628 ∷ 1 ∷ 3167800174 ∷ 3101316608 ∷ []; visiting = 3158986602 ∷ 3146150976 ∷ []; chosen = [] };
    }

abbrev pub pair6182 : Pair
pair6182 =
    record {
      one = record { tables = ((raised 16000 ∷ raised 5 ∷ raised 24 ∷ raised 2 ∷ raised 1 ∷ raised_minus 1 ∷ []) ∷ []) ∷ ([]) ∷ ((raised 0 ∷ raised_minus 60000 ∷ []) ∷ []) ∷ ((raised_minus 6000 ∷ []) ∷ (raised_minus 60000 ∷ []) ∷ (raised_minus 3000 ∷ []) ∷ (raised_minus 20000 ∷ []) ∷ []) ∷ ([]) ∷ ((raised 0 ∷ raised 0 ∷ raised 2 ∷ raised 1 ∷ []) ∷ []) ∷ ((raised 187500 ∷ raised_minus 72000 ∷ raised 165875 ∷ []) ∷ []) ∷ ((raised 1 ∷ raised 175875 ∷ raised_minus 56500 ∷ raised 165875 ∷ raised 6725 ∷ raised 27932 ∷ []) ∷ []) ∷ ((raised 0 ∷ raised 4 ∷ raised 1 ∷ raised 0 ∷ raised 0 ∷ raised 0 ∷ raised 0 ∷ raised 3600000 ∷ raised 0 ∷ raised 0 ∷ []) ∷ (raised 0 ∷ raised 4 ∷ raised 1 ∷ raised 0 ∷ raised 0 ∷ raised 1 ∷ raised 0 ∷ raised 1 ∷ raised 3 ∷ raised 3 ∷ []) ∷ (raised 0 ∷ raised 2 ∷ raised 4 ∷ raised_minus 96000 ∷ raised 0 ∷ raised 0 ∷ raised 0 ∷ raised 0 ∷ raised 0 ∷ raised 0 ∷ []) ∷ (raised 0 ∷ raised 5 ∷ raised 1 ∷ raised 0 ∷ raised 0 ∷ raised 1 ∷ raised 0 ∷ raised 0 ∷ raised 3 ∷ raised 5 ∷ []) ∷ (raised 0 ∷ raised 1 ∷ raised 1 ∷ raised 0 ∷ raised 0 ∷ raised 0 ∷ raised 0 ∷ raised 0 ∷ raised 1 ∷ raised 3 ∷ []) ∷ (raised 0 ∷ raised 4 ∷ raised 1 ∷ raised 0 ∷ raised 0 ∷ raised 0 ∷ raised 0 ∷ raised 7 ∷ raised 2 ∷ raised 6 ∷ []) ∷ []) ∷ []; bits = []; visiting = 1040977915 ∷ 3196059648 ∷ 0 ∷ 1045177574 ∷ []; chosen = [] };
      other = record { tables = ((raised 16000 ∷ raised 5 ∷ raised 24 ∷ raised 2 ∷ raised 1 ∷ raised_minus 1 ∷ []) ∷ []) ∷ ([]) ∷ ((raised 0 ∷ raised_minus 60000 ∷ []) ∷ []) ∷ ((raised_minus 6000 ∷ []) ∷ (raised_minus 60000 ∷ []) ∷ (raised_minus 3000 ∷ []) ∷ (raised_minus 20000 ∷ []) ∷ []) ∷ ([]) ∷ ((raised 0 ∷ raised 0 ∷ raised 2 ∷ raised 1 ∷ []) ∷ []) ∷ ((raised 187500 ∷ raised_minus 72000 ∷ raised 165875 ∷ []) ∷ []) ∷ ((raised 1 ∷ raised 175875 ∷ raised_minus 56500 ∷ raised 165875 ∷ raised 6725 ∷ raised 27932 ∷ []) ∷ []) ∷ ((raised 0 ∷ raised 4 ∷ raised 1 ∷ raised 0 ∷ raised 0 ∷ raised 0 ∷ raised 0 ∷ raised 3600000 ∷ raised 0 ∷ raised 0 ∷ []) ∷ (raised 0 ∷ raised 4 ∷ raised 1 ∷ raised 0 ∷ raised 0 ∷ raised 1 ∷ raised 0 ∷ raised 1 ∷ raised 3 ∷ raised 3 ∷ []) ∷ (raised 0 ∷ raised 2 ∷ raised 4 ∷ raised_minus 96000 ∷ raised 0 ∷ raised 0 ∷ raised 0 ∷ raised 0 ∷ raised 0 ∷ raised 0 ∷ []) ∷ (raised 0 ∷ raised 5 ∷ raised 1 ∷ raised 0 ∷ raised 0 ∷ raised 1 ∷ raised 0 ∷ raised 0 ∷ raised 3 ∷ raised 5 ∷ []) ∷ (raised 0 ∷ raised 1 ∷ raised 1 ∷ raised 0 ∷ raised 0 ∷ raised 0 ∷ raised 0 ∷ raised 0 ∷ raised 1 ∷ raised 3 ∷ []) ∷ (raised 0 ∷ raised 4 ∷ raised 1 ∷ raised 0 ∷ raised 0 ∷ raised 0 ∷ raised 0 ∷ raised 7 ∷ raised 2 ∷ raised 6 ∷ []) ∷ []) ∷ []; bits = []; visiting = 1040977915 ∷ 3196059648 ∷ 0 ∷ 1045177574 ∷ 1018821932 ∷ 3164115350 ∷ 1021357133 ∷ 3156063104 ∷ 3157570164 ∷ 1016745758 ∷ 3167353684 ∷ 3158725470 ∷ 3147707008 ∷ 3159778722 ∷ 1015247891 ∷ 1017656789 ∷ 2147483648 ∷ 3156203482 ∷ []; chosen = [] };
    }

abbrev pub pair6308 : Pair
pair6308 =
    record {
      one = record { tables = ((raised 71831 ∷ raised 1 ∷ raised 72 ∷ raised 1 ∷ raised 3 ∷ raised_minus 3000 ∷ []) ∷ []) ∷ ((raised 0 ∷ raised 26913 ∷ raised 1 ∷ []) ∷ (raised 0 ∷ raised 155 ∷ raised 1 ∷ []) ∷ (raised 2 ∷ raised 38864597 ∷ raised 1 ∷ []) ∷ []) ∷ ((raised 0 ∷ raised 1 ∷ []) ∷ (raised 1 ∷ raised 0 ∷ []) ∷ (raised 0 ∷ raised_minus 60001 ∷ []) ∷ []) ∷ ((raised 0 ∷ []) ∷ (raised 0 ∷ []) ∷ []) ∷ ((raised 2 ∷ raised 1 ∷ raised_minus 63996 ∷ []) ∷ []) ∷ ((raised 3 ∷ raised 0 ∷ raised 0 ∷ raised 1 ∷ []) ∷ (raised 3 ∷ raised 0 ∷ raised 0 ∷ raised 1 ∷ []) ∷ (raised 0 ∷ raised 0 ∷ raised 0 ∷ raised 1 ∷ []) ∷ []) ∷ ([]) ∷ ([]) ∷ ((raised 0 ∷ raised 4 ∷ raised 1 ∷ raised 0 ∷ raised 0 ∷ raised 0 ∷ raised 0 ∷ raised 0 ∷ raised 2 ∷ raised 8 ∷ []) ∷ (raised 0 ∷ raised 4 ∷ raised 3 ∷ raised 0 ∷ raised 3 ∷ raised 0 ∷ raised 500 ∷ raised 2 ∷ raised 3 ∷ raised 7 ∷ []) ∷ (raised 0 ∷ raised 0 ∷ raised 0 ∷ raised 0 ∷ raised 1 ∷ raised 1 ∷ raised 999 ∷ raised 1 ∷ raised 0 ∷ raised 0 ∷ []) ∷ []) ∷ []; bits = 3173027056 ∷ 1043834137 ∷ []; visiting = []; chosen = 0 ∷ 2 ∷ [] };
      other = record { tables = ((raised 71831 ∷ raised 1 ∷ raised 72 ∷ raised 1 ∷ raised 3 ∷ raised_minus 3000 ∷ []) ∷ []) ∷ ((raised 0 ∷ raised 26913 ∷ raised 1 ∷ []) ∷ (raised 0 ∷ raised 155 ∷ raised 1 ∷ []) ∷ (raised 2 ∷ raised 38864597 ∷ raised 1 ∷ []) ∷ []) ∷ ((raised 0 ∷ raised 1 ∷ []) ∷ (raised 0 ∷ raised_minus 60001 ∷ []) ∷ []) ∷ ((raised 0 ∷ []) ∷ (raised 0 ∷ []) ∷ []) ∷ ([]) ∷ ((raised 1 ∷ raised 0 ∷ raised 1 ∷ raised 1 ∷ []) ∷ (raised 0 ∷ raised 0 ∷ raised 0 ∷ raised 1 ∷ []) ∷ []) ∷ ([]) ∷ ([]) ∷ ((raised 0 ∷ raised 4 ∷ raised 1 ∷ raised 0 ∷ raised 0 ∷ raised 0 ∷ raised 0 ∷ raised 0 ∷ raised 2 ∷ raised 8 ∷ []) ∷ (raised 0 ∷ raised 4 ∷ raised 2 ∷ raised 0 ∷ raised 3 ∷ raised 0 ∷ raised 500 ∷ raised 2 ∷ raised 3 ∷ raised 7 ∷ []) ∷ (raised 0 ∷ raised 0 ∷ raised 0 ∷ raised 0 ∷ raised 1 ∷ raised 1 ∷ raised 999 ∷ raised 1 ∷ raised 0 ∷ raised 0 ∷ []) ∷ []) ∷ []; bits = 3208408879 ∷ 1041604752 ∷ 3187850228 ∷ 3212836864 ∷ 1064670298 ∷ 3196986480 ∷ 1059488443 ∷ 1065353216 ∷ 3207338367 ∷ 1054444170 ∷ 967462912 ∷ 1062915372 ∷ 3196059648 ∷ 3212631763 ∷ 1040173272 ∷ 1054600016 ∷ 1059528890 ∷ 3210969262 ∷ 1049563958 ∷ 1063898577 ∷ 1062702866 ∷ 1049526632 ∷ 1043103880 ∷ 3209518846 ∷ 3204964382 ∷ 3197937734 ∷ 3212664209 ∷ 3184994640 ∷ 3187841120 ∷ 1061583481 ∷ 3177052416 ∷ 2147483649 ∷ 3182080344 ∷ 3197709586 ∷ 1062421520 ∷ 3164412000 ∷ 1054279864 ∷ 1057990527 ∷ 3210549743 ∷ 3188015908 ∷ 1059868049 ∷ 1059209580 ∷ 1046814640 ∷ 1065012845 ∷ 1 ∷ 1056964608 ∷ 1042713816 ∷ 1063641452 ∷ 1049532486 ∷ 3186526736 ∷ 3204145344 ∷ 1055006462 ∷ 3194904952 ∷ 3198976592 ∷ 1042749444 ∷ 1056366034 ∷ 3171488128 ∷ 3193299516 ∷ 3197389266 ∷ 3198322002 ∷ 1056964608 ∷ 3146425600 ∷ 1065068505 ∷ 1049606132 ∷ 1061360829 ∷ 3212836864 ∷ 3183633640 ∷ 1042287208 ∷ 3190419752 ∷ 1058872504 ∷ 1051023314 ∷ 3196754442 ∷ 3209005467 ∷ 1058387106 ∷ 1051551714 ∷ 1060919159 ∷ 3205007164 ∷ 3196732426 ∷ 1055800080 ∷ 1063887241 ∷ 3197772408 ∷ 3212125692 ∷ 3198563804 ∷ 1057451283 ∷ 3211765783 ∷ 1056495814 ∷ 3199424688 ∷ 3191673656 ∷ 1049819936 ∷ 3209520052 ∷ 3208241064 ∷ 1062066808 ∷ 1060637598 ∷ 1051554184 ∷ 3204866536 ∷ 1042953368 ∷ 3212487339 ∷ 1062066539 ∷ []; visiting = 3209084210 ∷ 3212082747 ∷ []; chosen = 0 ∷ 1 ∷ [] };
    }

abbrev pub pair8245 : Pair
pair8245 =
    record {
      one = record { tables = ((raised 44100 ∷ raised 5 ∷ raised 7 ∷ raised 1 ∷ raised 3 ∷ raised_minus 20000 ∷ []) ∷ []) ∷ ((raised 0 ∷ raised 21083 ∷ raised 1 ∷ []) ∷ (raised 0 ∷ raised 1 ∷ raised 1 ∷ []) ∷ (raised 2 ∷ raised 25676173 ∷ raised 1 ∷ []) ∷ []) ∷ ((raised 0 ∷ raised_minus 59999 ∷ []) ∷ (raised 0 ∷ raised_minus 1 ∷ []) ∷ (raised 2 ∷ raised 4004 ∷ []) ∷ []) ∷ ((raised_minus 28727 ∷ []) ∷ (raised_minus 20000 ∷ []) ∷ (raised_minus 82084 ∷ []) ∷ (raised_minus 6021 ∷ []) ∷ []) ∷ ((raised 3 ∷ raised 1 ∷ raised_minus 42613 ∷ []) ∷ (raised 1 ∷ raised 4 ∷ raised 0 ∷ []) ∷ []) ∷ ((raised 2 ∷ raised 0 ∷ raised 0 ∷ raised 1 ∷ []) ∷ []) ∷ ((raised_minus 18625 ∷ raised 98625 ∷ raised_minus 162125 ∷ []) ∷ []) ∷ ((raised 2 ∷ raised_minus 1 ∷ raised 0 ∷ raised_minus 216095 ∷ raised 907526 ∷ raised 907527 ∷ []) ∷ (raised 1 ∷ raised_minus 1 ∷ raised 486711 ∷ raised 999999 ∷ raised 0 ∷ raised 1000000 ∷ []) ∷ []) ∷ ((raised 0 ∷ raised 1 ∷ raised 1 ∷ raised_minus 6000 ∷ raised 0 ∷ raised 3600000 ∷ raised 0 ∷ raised 1 ∷ raised 0 ∷ raised 0 ∷ []) ∷ (raised 2 ∷ raised 1 ∷ raised 3 ∷ raised 4004 ∷ raised 3 ∷ raised 0 ∷ raised 999 ∷ raised 1 ∷ raised 0 ∷ raised 0 ∷ []) ∷ (raised 0 ∷ raised 1 ∷ raised 1 ∷ raised 0 ∷ raised 0 ∷ raised 0 ∷ raised 0 ∷ raised 3600000 ∷ raised 2 ∷ raised 6 ∷ []) ∷ (raised 0 ∷ raised 3 ∷ raised 1 ∷ raised 0 ∷ raised 0 ∷ raised 2 ∷ raised 0 ∷ raised 1 ∷ raised 1 ∷ raised 4 ∷ []) ∷ (raised 0 ∷ raised 1 ∷ raised 1 ∷ raised_minus 59999 ∷ raised 0 ∷ raised 0 ∷ raised 0 ∷ raised 2 ∷ raised 0 ∷ raised 0 ∷ []) ∷ []) ∷ []; bits = 3144428456 ∷ 1017492650 ∷ []; visiting = 1043195172 ∷ 1045844610 ∷ []; chosen = [] };
      other = record { tables = ((raised 44100 ∷ raised 5 ∷ raised 7 ∷ raised 1 ∷ raised 3 ∷ raised_minus 20000 ∷ []) ∷ []) ∷ ((raised 0 ∷ raised 21083 ∷ raised 1 ∷ []) ∷ (raised 0 ∷ raised 1 ∷ raised 1 ∷ []) ∷ (raised 2 ∷ raised 25676173 ∷ raised 1 ∷ []) ∷ []) ∷ ((raised 0 ∷ raised_minus 59999 ∷ []) ∷ (raised 0 ∷ raised_minus 1 ∷ []) ∷ (raised 2 ∷ raised 4004 ∷ []) ∷ []) ∷ ((raised_minus 28727 ∷ []) ∷ (raised_minus 20000 ∷ []) ∷ (raised_minus 82084 ∷ []) ∷ (raised_minus 6021 ∷ []) ∷ []) ∷ ((raised 3 ∷ raised 1 ∷ raised_minus 42613 ∷ []) ∷ (raised 1 ∷ raised 4 ∷ raised 0 ∷ []) ∷ []) ∷ ((raised 2 ∷ raised 0 ∷ raised 0 ∷ raised 1 ∷ []) ∷ []) ∷ ((raised_minus 18625 ∷ raised 98625 ∷ raised_minus 162125 ∷ []) ∷ []) ∷ ((raised 2 ∷ raised_minus 1 ∷ raised 0 ∷ raised_minus 216095 ∷ raised 907526 ∷ raised 907527 ∷ []) ∷ (raised 1 ∷ raised_minus 1 ∷ raised 486711 ∷ raised 999999 ∷ raised 0 ∷ raised 1000000 ∷ []) ∷ []) ∷ ((raised 0 ∷ raised 1 ∷ raised 1 ∷ raised_minus 6000 ∷ raised 0 ∷ raised 3600000 ∷ raised 0 ∷ raised 1 ∷ raised 0 ∷ raised 0 ∷ []) ∷ (raised 2 ∷ raised 1 ∷ raised 3 ∷ raised 4004 ∷ raised 3 ∷ raised 0 ∷ raised 999 ∷ raised 1 ∷ raised 0 ∷ raised 0 ∷ []) ∷ (raised 0 ∷ raised 1 ∷ raised 1 ∷ raised 0 ∷ raised 0 ∷ raised 0 ∷ raised 0 ∷ raised 3600000 ∷ raised 2 ∷ raised 6 ∷ []) ∷ (raised 0 ∷ raised 3 ∷ raised 1 ∷ raised 0 ∷ raised 0 ∷ raised 2 ∷ raised 0 ∷ raised 1 ∷ raised 1 ∷ raised 4 ∷ []) ∷ (raised 0 ∷ raised 1 ∷ raised 1 ∷ raised_minus 59999 ∷ raised 0 ∷ raised 0 ∷ raised 0 ∷ raised 2 ∷ raised 0 ∷ raised 0 ∷ []) ∷ []) ∷ []; bits = []; visiting = 3131209226 ∷ 3137555016 ∷ []; chosen = [] };
    }

abbrev pub corners : Pair
corners =
    record {
      one = record { tables = ((raised 8192 ∷ raised 2 ∷ raised 4 ∷ raised 8 ∷ raised 3 ∷ raised 0 ∷ []) ∷ []) ∷ ([]) ∷ ((raised 0 ∷ raised 0 ∷ []) ∷ (raised 1 ∷ raised 0 ∷ []) ∷ (raised 2 ∷ raised 0 ∷ []) ∷ (raised 3 ∷ raised_minus 60000 ∷ []) ∷ (raised 1 ∷ raised_minus 60000 ∷ []) ∷ (raised 5 ∷ raised_minus 300 ∷ []) ∷ (raised 2 ∷ raised 0 ∷ []) ∷ (raised 0 ∷ raised 0 ∷ []) ∷ (raised 8 ∷ raised 0 ∷ []) ∷ []) ∷ ((raised 0 ∷ []) ∷ []) ∷ ((raised 2 ∷ raised 1 ∷ raised_minus 2000 ∷ []) ∷ (raised 5 ∷ raised 1 ∷ raised 0 ∷ []) ∷ []) ∷ ((raised 1 ∷ raised 0 ∷ raised 6 ∷ raised 0 ∷ []) ∷ (raised 3 ∷ raised 2 ∷ raised 4 ∷ raised 0 ∷ []) ∷ (raised 2 ∷ raised 1 ∷ raised 5 ∷ raised 0 ∷ []) ∷ (raised 4 ∷ raised 0 ∷ raised 4 ∷ raised 0 ∷ []) ∷ (raised 6 ∷ raised 1 ∷ raised 3 ∷ raised 1 ∷ []) ∷ (raised 7 ∷ raised 2 ∷ raised 2 ∷ raised 0 ∷ []) ∷ []) ∷ ((raised 0 ∷ raised 1000 ∷ raised_minus 500 ∷ []) ∷ []) ∷ ((raised 6 ∷ raised 0 ∷ raised 0 ∷ raised 0 ∷ raised 0 ∷ raised 1 ∷ []) ∷ (raised 7 ∷ raised 5 ∷ raised 5 ∷ raised 5 ∷ raised 2 ∷ raised 7 ∷ []) ∷ (raised 1 ∷ raised 500 ∷ raised 1000 ∷ raised 0 ∷ raised 100 ∷ raised 9000 ∷ []) ∷ []) ∷ ((raised 0 ∷ raised 4 ∷ raised 7 ∷ raised 0 ∷ raised 0 ∷ raised 0 ∷ raised 0 ∷ raised 0 ∷ raised 0 ∷ raised 0 ∷ []) ∷ (raised 0 ∷ raised 4 ∷ raised 9 ∷ raised 0 ∷ raised 0 ∷ raised 0 ∷ raised 0 ∷ raised 0 ∷ raised 0 ∷ raised 0 ∷ []) ∷ (raised 0 ∷ raised 4 ∷ raised 8 ∷ raised 0 ∷ raised 0 ∷ raised 0 ∷ raised 0 ∷ raised 0 ∷ raised 0 ∷ raised 0 ∷ []) ∷ (raised 1 ∷ raised 1 ∷ raised 4 ∷ raised_minus 60000 ∷ raised 0 ∷ raised 0 ∷ raised 0 ∷ raised 2 ∷ raised 0 ∷ raised 0 ∷ []) ∷ (raised 0 ∷ raised 1 ∷ raised 5 ∷ raised_minus 61000 ∷ raised 0 ∷ raised 1 ∷ raised 0 ∷ raised 1 ∷ raised 1 ∷ raised 2 ∷ []) ∷ (raised 1 ∷ raised 0 ∷ raised 0 ∷ raised_minus 3000 ∷ raised 0 ∷ raised 0 ∷ raised 0 ∷ raised 1 ∷ raised 0 ∷ raised 0 ∷ []) ∷ []) ∷ []; bits = 1056964608 ∷ 3196059648 ∷ 1044381696 ∷ 1050673152 ∷ 3202351104 ∷ 1040187392 ∷ 1052770304 ∷ 1031798784 ∷ 3187671040 ∷ 1048576000 ∷ 1058013184 ∷ 3191865344 ∷ 1031798784 ∷ 1031798784 ∷ []; visiting = 1050673152 ∷ 1050673152 ∷ 1050673152 ∷ 1050673152 ∷ 1050673152 ∷ 1050673152 ∷ 1050673152 ∷ 1050673152 ∷ []; chosen = 3 ∷ 4 ∷ 6 ∷ 8 ∷ [] };
      other = record { tables = ((raised 8192 ∷ raised 2 ∷ raised 4 ∷ raised 8 ∷ raised 3 ∷ raised 0 ∷ []) ∷ []) ∷ ([]) ∷ ((raised 0 ∷ raised 0 ∷ []) ∷ (raised 1 ∷ raised 0 ∷ []) ∷ (raised 2 ∷ raised 0 ∷ []) ∷ (raised 3 ∷ raised_minus 60000 ∷ []) ∷ (raised 1 ∷ raised_minus 60000 ∷ []) ∷ (raised 5 ∷ raised_minus 300 ∷ []) ∷ (raised 2 ∷ raised 0 ∷ []) ∷ (raised 7 ∷ raised_minus 300 ∷ []) ∷ (raised 0 ∷ raised 0 ∷ []) ∷ (raised 9 ∷ raised 0 ∷ []) ∷ (raised 10 ∷ raised_minus 300 ∷ []) ∷ []) ∷ ((raised 0 ∷ []) ∷ []) ∷ ((raised 2 ∷ raised 1 ∷ raised_minus 2000 ∷ []) ∷ (raised 5 ∷ raised 1 ∷ raised 0 ∷ []) ∷ []) ∷ ((raised 1 ∷ raised 0 ∷ raised 6 ∷ raised 0 ∷ []) ∷ (raised 3 ∷ raised 2 ∷ raised 4 ∷ raised 0 ∷ []) ∷ (raised 2 ∷ raised 2 ∷ raised 5 ∷ raised 1 ∷ []) ∷ (raised 5 ∷ raised 5 ∷ raised 2 ∷ raised 1 ∷ []) ∷ (raised 8 ∷ raised 6 ∷ raised 2 ∷ raised 0 ∷ []) ∷ (raised 11 ∷ raised 0 ∷ raised 6 ∷ raised 1 ∷ []) ∷ (raised 10 ∷ raised 6 ∷ raised 1 ∷ raised 0 ∷ []) ∷ []) ∷ ((raised 0 ∷ raised 1000 ∷ raised_minus 500 ∷ []) ∷ []) ∷ ((raised 5 ∷ raised_minus 1000000 ∷ raised 0 ∷ raised 0 ∷ raised 0 ∷ raised 1000000 ∷ []) ∷ (raised 7 ∷ raised 5 ∷ raised 5 ∷ raised 5 ∷ raised 2 ∷ raised 8 ∷ []) ∷ (raised 11 ∷ raised 1 ∷ raised 2 ∷ raised 3 ∷ raised 4 ∷ raised 5 ∷ []) ∷ (raised 1 ∷ raised 500 ∷ raised 1000 ∷ raised 0 ∷ raised 100 ∷ raised 9000 ∷ []) ∷ []) ∷ ((raised 0 ∷ raised 4 ∷ raised 7 ∷ raised 0 ∷ raised 0 ∷ raised 0 ∷ raised 0 ∷ raised 0 ∷ raised 0 ∷ raised 0 ∷ []) ∷ (raised 0 ∷ raised 4 ∷ raised 10 ∷ raised 0 ∷ raised 0 ∷ raised 0 ∷ raised 0 ∷ raised 0 ∷ raised 0 ∷ raised 0 ∷ []) ∷ (raised 0 ∷ raised 4 ∷ raised 9 ∷ raised 0 ∷ raised 0 ∷ raised 0 ∷ raised 0 ∷ raised 0 ∷ raised 0 ∷ raised 0 ∷ []) ∷ (raised 1 ∷ raised 1 ∷ raised 4 ∷ raised_minus 60000 ∷ raised 0 ∷ raised 0 ∷ raised 0 ∷ raised 2 ∷ raised 0 ∷ raised 0 ∷ []) ∷ (raised 0 ∷ raised 1 ∷ raised 5 ∷ raised_minus 61000 ∷ raised 0 ∷ raised 1 ∷ raised 0 ∷ raised 1 ∷ raised 1 ∷ raised 2 ∷ []) ∷ (raised 1 ∷ raised 0 ∷ raised 0 ∷ raised_minus 3000 ∷ raised 0 ∷ raised 0 ∷ raised 0 ∷ raised 1 ∷ raised 0 ∷ raised 0 ∷ []) ∷ []) ∷ []; bits = 1056964608 ∷ 3196059648 ∷ 1044381696 ∷ 1050673152 ∷ 3202351104 ∷ 1040187392 ∷ 1052770304 ∷ 1031798784 ∷ 3187671040 ∷ 1048576000 ∷ 1058013184 ∷ 3191865344 ∷ 1065353216 ∷ 3212836864 ∷ 1064304640 ∷ 1054867456 ∷ []; visiting = 1031798784 ∷ 1040187392 ∷ 1044381696 ∷ 1048576000 ∷ 1044381696 ∷ 1050673152 ∷ 3202351104 ∷ 1040187392 ∷ 1052770304 ∷ 1031798784 ∷ 3187671040 ∷ 1048576000 ∷ 1058013184 ∷ 3191865344 ∷ []; chosen = 3 ∷ 4 ∷ 6 ∷ 9 ∷ [] };
    }

abbrev pub alike_pairs : List Pair
alike_pairs = pair121 ∷ pair149 ∷ pair158 ∷ pair369 ∷ pair852 ∷ pair915 ∷ pair1051 ∷ pair1102 ∷ pair1197 ∷ pair1384 ∷ pair1844 ∷ pair1848 ∷ pair1997 ∷ pair2836 ∷ pair4370 ∷ pair5855 ∷ pair6182 ∷ pair6308 ∷ pair8245 ∷ corners ∷ []

abbrev pub muted_above_silence : Pair
muted_above_silence =
    record {
      one = record { tables = ((raised 32605 ∷ raised 3 ∷ raised 5 ∷ raised 32 ∷ raised 12 ∷ raised 0 ∷ []) ∷ []) ∷ ((raised 0 ∷ raised 1 ∷ raised 1 ∷ []) ∷ (raised 1 ∷ raised 130 ∷ raised 1 ∷ []) ∷ []) ∷ ((raised 0 ∷ raised_minus 59999 ∷ []) ∷ (raised 1 ∷ raised 2249 ∷ []) ∷ (raised 2 ∷ raised_minus 3731 ∷ []) ∷ (raised 2 ∷ raised_minus 2861 ∷ []) ∷ (raised 1 ∷ raised_minus 874 ∷ []) ∷ (raised 4 ∷ raised 565 ∷ []) ∷ (raised 2 ∷ raised 1507 ∷ []) ∷ (raised 3 ∷ raised_minus 955 ∷ []) ∷ (raised 4 ∷ raised_minus 4584 ∷ []) ∷ []) ∷ ((raised_minus 2708 ∷ []) ∷ (raised_minus 1826 ∷ []) ∷ (raised 0 ∷ []) ∷ []) ∷ ((raised 1 ∷ raised 1 ∷ raised_minus 2973 ∷ []) ∷ (raised 1 ∷ raised 2 ∷ raised_minus 5587 ∷ []) ∷ []) ∷ ((raised 5 ∷ raised 0 ∷ raised 8 ∷ raised 1 ∷ []) ∷ (raised 5 ∷ raised 0 ∷ raised 9 ∷ raised 1 ∷ []) ∷ (raised 0 ∷ raised 0 ∷ raised 2 ∷ raised 0 ∷ []) ∷ (raised 5 ∷ raised 0 ∷ raised 8 ∷ raised 1 ∷ []) ∷ (raised 0 ∷ raised 0 ∷ raised 5 ∷ raised 0 ∷ []) ∷ (raised 5 ∷ raised 14 ∷ raised 11 ∷ raised 0 ∷ []) ∷ (raised 5 ∷ raised 26 ∷ raised 8 ∷ raised 0 ∷ []) ∷ (raised 0 ∷ raised 5 ∷ raised 32 ∷ raised 0 ∷ []) ∷ (raised 5 ∷ raised 3 ∷ raised 6 ∷ raised 1 ∷ []) ∷ (raised 5 ∷ raised 0 ∷ raised 8 ∷ raised 1 ∷ []) ∷ (raised 5 ∷ raised 7 ∷ raised 30 ∷ raised 0 ∷ []) ∷ []) ∷ ((raised_minus 63125 ∷ raised_minus 11000 ∷ raised 52875 ∷ []) ∷ []) ∷ ([]) ∷ ((raised 11 ∷ raised 4 ∷ raised 5 ∷ raised 0 ∷ raised 2 ∷ raised 0 ∷ raised 500 ∷ raised 2 ∷ raised 2 ∷ raised 2 ∷ []) ∷ (raised 11 ∷ raised 5 ∷ raised 6 ∷ raised 0 ∷ raised 0 ∷ raised 0 ∷ raised 0 ∷ raised 2 ∷ raised 3 ∷ raised 2 ∷ []) ∷ (raised 8 ∷ raised 1 ∷ raised 2 ∷ raised_minus 2423 ∷ raised 0 ∷ raised 31 ∷ raised 0 ∷ raised 4 ∷ raised 1 ∷ raised 8 ∷ []) ∷ (raised 9 ∷ raised 1 ∷ raised 8 ∷ raised 2491 ∷ raised 2 ∷ raised 1 ∷ raised 1 ∷ raised 6 ∷ raised 3 ∷ raised 8 ∷ []) ∷ (raised 6 ∷ raised 5 ∷ raised 9 ∷ raised 0 ∷ raised 1 ∷ raised 5 ∷ raised 534 ∷ raised 1 ∷ raised 0 ∷ raised 0 ∷ []) ∷ []) ∷ []; bits = 3131334008 ∷ 977817164 ∷ 3137994039 ∷ 3143042518 ∷ 996828219 ∷ 996686363 ∷ 992919070 ∷ 3140698078 ∷ 3131985468 ∷ 997920655 ∷ 1047170552 ∷ 1044495988 ∷ 1041020532 ∷ 1054406982 ∷ 1058377123 ∷ 3192869660 ∷ 1052065078 ∷ 1051551146 ∷ 3211443758 ∷ 3202002588 ∷ 3207597177 ∷ 1056994802 ∷ 0 ∷ 1051990930 ∷ 3209954683 ∷ 1064043358 ∷ 1056008864 ∷ 3210613347 ∷ 1046997172 ∷ 1064402462 ∷ 1058422740 ∷ 1062774710 ∷ 3154888384 ∷ 1056964608 ∷ 3198224134 ∷ 0 ∷ 3193172860 ∷ 3210836145 ∷ 1053116028 ∷ 1043541408 ∷ 3138354944 ∷ 1063514096 ∷ 3187924984 ∷ 1 ∷ 1042530068 ∷ 1036012752 ∷ 1054516102 ∷ 1064027552 ∷ 3187766240 ∷ 3179592712 ∷ 3204832930 ∷ 1027143488 ∷ 1030337616 ∷ 3196082408 ∷ 1054381972 ∷ 3212635835 ∷ 1058160794 ∷ 3208568102 ∷ 1045808644 ∷ 1054063476 ∷ 1046150276 ∷ 3211456568 ∷ 3206342253 ∷ 1050212022 ∷ 3209379064 ∷ 1033489544 ∷ 3196059648 ∷ 1061973740 ∷ 1060007423 ∷ 1064614623 ∷ 1042324736 ∷ 3197024258 ∷ 3208170612 ∷ 1065319721 ∷ []; visiting = 2147483649 ∷ 3200322652 ∷ 3209630949 ∷ 1052382296 ∷ 1057013684 ∷ 1042288208 ∷ 3189825360 ∷ 3189090600 ∷ 3145061120 ∷ 2147483649 ∷ 3198842762 ∷ 1034288944 ∷ 3202322942 ∷ 3202441032 ∷ 3204008592 ∷ 3210953515 ∷ 1064391160 ∷ 3181360456 ∷ []; chosen = 0 ∷ [] };
      other = record { tables = ((raised 32605 ∷ raised 3 ∷ raised 5 ∷ raised 32 ∷ raised 12 ∷ raised 0 ∷ []) ∷ []) ∷ ((raised 0 ∷ raised 1 ∷ raised 1 ∷ []) ∷ (raised 1 ∷ raised 130 ∷ raised 1 ∷ []) ∷ []) ∷ ((raised 0 ∷ raised_minus 59999 ∷ []) ∷ (raised 1 ∷ raised_minus 5352 ∷ []) ∷ []) ∷ ((raised_minus 2708 ∷ []) ∷ (raised_minus 1826 ∷ []) ∷ (raised 0 ∷ []) ∷ []) ∷ ((raised 1 ∷ raised 1 ∷ raised_minus 2973 ∷ []) ∷ (raised 1 ∷ raised 2 ∷ raised_minus 5587 ∷ []) ∷ []) ∷ ((raised 2 ∷ raised 4 ∷ raised 5 ∷ raised 1 ∷ []) ∷ (raised 2 ∷ raised 14 ∷ raised 24 ∷ raised 0 ∷ []) ∷ (raised 2 ∷ raised 29 ∷ raised 8 ∷ raised 0 ∷ []) ∷ (raised 2 ∷ raised 0 ∷ raised 9 ∷ raised 1 ∷ []) ∷ (raised 0 ∷ raised 0 ∷ raised 2 ∷ raised 0 ∷ []) ∷ (raised 0 ∷ raised 0 ∷ raised 5 ∷ raised 0 ∷ []) ∷ (raised 2 ∷ raised 1 ∷ raised 8 ∷ raised 1 ∷ []) ∷ (raised 2 ∷ raised 1 ∷ raised 8 ∷ raised 0 ∷ []) ∷ (raised 0 ∷ raised 5 ∷ raised 32 ∷ raised 0 ∷ []) ∷ (raised 2 ∷ raised 1 ∷ raised 8 ∷ raised 0 ∷ []) ∷ (raised 2 ∷ raised 1 ∷ raised 8 ∷ raised 1 ∷ []) ∷ []) ∷ ((raised_minus 63125 ∷ raised_minus 11000 ∷ raised 52875 ∷ []) ∷ []) ∷ ([]) ∷ ([]) ∷ []; bits = 3131334008 ∷ 977817164 ∷ 3137994039 ∷ 3143042518 ∷ 996828219 ∷ 996686363 ∷ 992919070 ∷ 3140698078 ∷ 3131985468 ∷ 997920655 ∷ 1047170552 ∷ 1044495988 ∷ 1041020532 ∷ 1054406982 ∷ 1058377123 ∷ 3192869660 ∷ 1052065078 ∷ 1051551146 ∷ 3211443758 ∷ 3202002588 ∷ 3207597177 ∷ 1056994802 ∷ 0 ∷ 1051990930 ∷ 3209954683 ∷ 1064043358 ∷ 1056008864 ∷ 3210613347 ∷ 1046997172 ∷ 1064402462 ∷ 1058422740 ∷ 1062774710 ∷ 3154888384 ∷ 1056964608 ∷ 3198224134 ∷ 0 ∷ 3193172860 ∷ 3210836145 ∷ 1053116028 ∷ 1043541408 ∷ 3138354944 ∷ 1063514096 ∷ 3187924984 ∷ 1 ∷ 1042530068 ∷ 1036012752 ∷ 1054516102 ∷ 1064027552 ∷ 3187766240 ∷ 3179592712 ∷ 3204832930 ∷ 1027143488 ∷ 1030337616 ∷ 3196082408 ∷ 1054381972 ∷ 3212635835 ∷ 1058160794 ∷ 3208568102 ∷ 1045808644 ∷ 1054063476 ∷ 1046150276 ∷ 3211456568 ∷ 3206342253 ∷ 1050212022 ∷ 3209379064 ∷ 1033489544 ∷ 3196059648 ∷ 1061973740 ∷ 1060007423 ∷ 1064614623 ∷ 1042324736 ∷ 3197024258 ∷ 3208170612 ∷ 1065319721 ∷ 1002590120 ∷ 993428200 ∷ []; visiting = 1065353216 ∷ 3112401048 ∷ 3144963149 ∷ 958998400 ∷ 982762306 ∷ 3141758260 ∷ 993529967 ∷ 991479750 ∷ 3139386652 ∷ 986483600 ∷ 978211544 ∷ 3120918080 ∷ 3134903712 ∷ 3131118382 ∷ 965817656 ∷ 3137658267 ∷ 2147483649 ∷ 3143068868 ∷ []; chosen = 0 ∷ [] };
    }

abbrev pub loud_volume_order : Pair
loud_volume_order =
    record {
      one = record { tables = ((raised 24927 ∷ raised 2 ∷ raised 12 ∷ raised 32 ∷ raised 12 ∷ raised 0 ∷ []) ∷ []) ∷ ((raised 2 ∷ raised 53467742 ∷ raised 1 ∷ []) ∷ []) ∷ ((raised 0 ∷ raised_minus 96000 ∷ []) ∷ (raised 1 ∷ raised 2382 ∷ []) ∷ (raised 0 ∷ raised 481 ∷ []) ∷ (raised 1 ∷ raised_minus 770 ∷ []) ∷ (raised 4 ∷ raised_minus 2862 ∷ []) ∷ (raised 5 ∷ raised 1244 ∷ []) ∷ []) ∷ ((raised 0 ∷ []) ∷ []) ∷ ([]) ∷ ((raised 2 ∷ raised 0 ∷ raised 33 ∷ raised 0 ∷ []) ∷ (raised 2 ∷ raised 13 ∷ raised 8 ∷ raised 0 ∷ []) ∷ (raised 2 ∷ raised 9 ∷ raised 12 ∷ raised 0 ∷ []) ∷ (raised 2 ∷ raised 0 ∷ raised 9 ∷ raised 1 ∷ []) ∷ (raised 0 ∷ raised 0 ∷ raised 1 ∷ raised 0 ∷ []) ∷ (raised 2 ∷ raised 7 ∷ raised 2 ∷ raised 1 ∷ []) ∷ (raised 2 ∷ raised 0 ∷ raised 8 ∷ raised 1 ∷ []) ∷ (raised 2 ∷ raised 20 ∷ raised 8 ∷ raised 0 ∷ []) ∷ (raised 2 ∷ raised 9 ∷ raised 24 ∷ raised 0 ∷ []) ∷ (raised 3 ∷ raised 1 ∷ raised 0 ∷ raised 0 ∷ []) ∷ (raised 0 ∷ raised 1 ∷ raised 32 ∷ raised 0 ∷ []) ∷ []) ∷ ([]) ∷ ([]) ∷ ((raised 0 ∷ raised 1 ∷ raised 1 ∷ raised 12570 ∷ raised 0 ∷ raised 0 ∷ raised 0 ∷ raised 0 ∷ raised 0 ∷ raised 0 ∷ []) ∷ (raised 3 ∷ raised 4 ∷ raised 4 ∷ raised 0 ∷ raised 0 ∷ raised 0 ∷ raised 0 ∷ raised 5 ∷ raised 2 ∷ raised 5 ∷ []) ∷ []) ∷ []; bits = 1011344794 ∷ 3150360732 ∷ 1042043799 ∷ 3146250176 ∷ 1056964608 ∷ 3196059648 ∷ 3181208472 ∷ 1032974830 ∷ 1042368216 ∷ 3180417610 ∷ 1018245752 ∷ 3191435218 ∷ 2147483649 ∷ 1039705804 ∷ 3189726211 ∷ 3123711488 ∷ 3177732076 ∷ 3187811869 ∷ 3173648396 ∷ 1038683792 ∷ 1043299636 ∷ 1032605244 ∷ 1037947242 ∷ 1047697472 ∷ 1046497661 ∷ 1427248 ∷ 1045562274 ∷ 1056964608 ∷ 1031600804 ∷ 1035543462 ∷ 1038031770 ∷ 3187536748 ∷ 1047130813 ∷ 1037909386 ∷ 3175332016 ∷ 1021208648 ∷ 1046279822 ∷ 3195396232 ∷ 1065353216 ∷ 1039917008 ∷ 1024147420 ∷ 1040948652 ∷ 3189674528 ∷ 1056964608 ∷ 1008754112 ∷ 3177505860 ∷ 1013985648 ∷ 1038886078 ∷ 3194242432 ∷ 1041558622 ∷ 1035518722 ∷ 1044674760 ∷ 3193375679 ∷ 2147483649 ∷ 3165302944 ∷ 3191185809 ∷ 3188499043 ∷ 3174407360 ∷ 1028161336 ∷ 3175430948 ∷ 1006406304 ∷ 3191572741 ∷ 3169178104 ∷ 3190072630 ∷ 3188863858 ∷ 1046843083 ∷ []; visiting = 3182513886 ∷ 1046821792 ∷ 1042719194 ∷ 1041361597 ∷ 3180452862 ∷ 3192945884 ∷ 3190886172 ∷ 3189880536 ∷ 3189039841 ∷ 1015151480 ∷ 1044093435 ∷ 1047332660 ∷ 3192614269 ∷ 1041732015 ∷ 1047822570 ∷ 3193682054 ∷ 1045084847 ∷ 1039063284 ∷ []; chosen = 0 ∷ [] };
      other = record { tables = ((raised 24927 ∷ raised 2 ∷ raised 12 ∷ raised 32 ∷ raised 12 ∷ raised 0 ∷ []) ∷ []) ∷ ((raised 2 ∷ raised 53467742 ∷ raised 1 ∷ []) ∷ []) ∷ ((raised 0 ∷ raised_minus 96000 ∷ []) ∷ (raised 1 ∷ raised_minus 135 ∷ []) ∷ (raised 1 ∷ raised_minus 5894 ∷ []) ∷ (raised 3 ∷ raised_minus 5021 ∷ []) ∷ (raised 2 ∷ raised 2337 ∷ []) ∷ (raised 3 ∷ raised_minus 5057 ∷ []) ∷ (raised 0 ∷ raised 481 ∷ []) ∷ (raised 6 ∷ raised 1581 ∷ []) ∷ []) ∷ ((raised 0 ∷ []) ∷ []) ∷ ([]) ∷ ((raised 5 ∷ raised 0 ∷ raised 33 ∷ raised 0 ∷ []) ∷ (raised 5 ∷ raised 0 ∷ raised 8 ∷ raised 1 ∷ []) ∷ (raised 5 ∷ raised 0 ∷ raised 8 ∷ raised 0 ∷ []) ∷ (raised 0 ∷ raised 0 ∷ raised 1 ∷ raised 0 ∷ []) ∷ (raised 5 ∷ raised 3 ∷ raised 5 ∷ raised 1 ∷ []) ∷ (raised 5 ∷ raised 4 ∷ raised 4 ∷ raised 1 ∷ []) ∷ (raised 7 ∷ raised 1 ∷ raised 0 ∷ raised 0 ∷ []) ∷ (raised 5 ∷ raised 0 ∷ raised 8 ∷ raised 1 ∷ []) ∷ (raised 5 ∷ raised 0 ∷ raised 8 ∷ raised 1 ∷ []) ∷ (raised 0 ∷ raised 1 ∷ raised 32 ∷ raised 0 ∷ []) ∷ (raised 5 ∷ raised 4 ∷ raised 4 ∷ raised 1 ∷ []) ∷ []) ∷ ([]) ∷ ([]) ∷ ((raised 0 ∷ raised 1 ∷ raised 1 ∷ raised 12570 ∷ raised 0 ∷ raised 0 ∷ raised 0 ∷ raised 0 ∷ raised 0 ∷ raised 0 ∷ []) ∷ (raised 2 ∷ raised 5 ∷ raised 6 ∷ raised 0 ∷ raised 0 ∷ raised 3600000 ∷ raised 0 ∷ raised 2 ∷ raised 2 ∷ raised 8 ∷ []) ∷ []) ∷ []; bits = 1011344794 ∷ 3150360732 ∷ 1042043799 ∷ 3146250176 ∷ 1056964608 ∷ 3196059648 ∷ 3181208472 ∷ 1032974830 ∷ 1042368216 ∷ 3180417610 ∷ 1018245752 ∷ 3191435218 ∷ 2147483649 ∷ 1039705804 ∷ 3189726211 ∷ 3123711488 ∷ 3177732076 ∷ 3187811869 ∷ 3173648396 ∷ 1038683792 ∷ 1043299636 ∷ 1032605244 ∷ 1037947242 ∷ 1047697472 ∷ 1046497661 ∷ 1427248 ∷ 1045562274 ∷ 1056964608 ∷ 1031600804 ∷ 1035543462 ∷ 1038031770 ∷ 3187536748 ∷ 1047130813 ∷ 1037909386 ∷ 3175332016 ∷ 1021208648 ∷ 1046279822 ∷ 3195396232 ∷ 1065353216 ∷ 1039917008 ∷ 1024147420 ∷ 1040948652 ∷ 3189674528 ∷ 1056964608 ∷ 1008754112 ∷ 3177505860 ∷ 1013985648 ∷ 1038886078 ∷ 3194242432 ∷ 1041558622 ∷ 1035518722 ∷ 1044674760 ∷ 3193375679 ∷ 2147483649 ∷ 3165302944 ∷ 3191185809 ∷ 3188499043 ∷ 3174407360 ∷ 1028161336 ∷ 3175430948 ∷ 1006406304 ∷ 3191572741 ∷ 3169178104 ∷ 3190072630 ∷ 3188863858 ∷ 1046843083 ∷ []; visiting = 3212198944 ∷ 1057794685 ∷ 2147483648 ∷ 1057963786 ∷ 3196059648 ∷ 1061752240 ∷ 3185378288 ∷ 3205031461 ∷ 1061493419 ∷ 1062529342 ∷ 3195388224 ∷ 3193733348 ∷ 1064653645 ∷ 3210407808 ∷ 1015517216 ∷ 3204135160 ∷ []; chosen = 0 ∷ [] };
    }

abbrev pub send_from_below : Pair
send_from_below =
    record {
      one = record { tables = ((raised 18080 ∷ raised 2 ∷ raised 4 ∷ raised 32 ∷ raised 12 ∷ raised 0 ∷ []) ∷ []) ∷ ((raised 0 ∷ raised 1 ∷ raised 1 ∷ []) ∷ []) ∷ ((raised 0 ∷ raised 355 ∷ []) ∷ (raised 1 ∷ raised_minus 1275 ∷ []) ∷ (raised 2 ∷ raised_minus 5999 ∷ []) ∷ (raised 0 ∷ raised_minus 3993 ∷ []) ∷ (raised 4 ∷ raised_minus 64340 ∷ []) ∷ (raised 5 ∷ raised 1814 ∷ []) ∷ []) ∷ ((raised_minus 5717 ∷ []) ∷ (raised 0 ∷ []) ∷ []) ∷ ((raised 3 ∷ raised 1 ∷ raised_minus 220 ∷ []) ∷ (raised 6 ∷ raised 1 ∷ raised 2248 ∷ []) ∷ []) ∷ ((raised 6 ∷ raised 6 ∷ raised 3 ∷ raised 1 ∷ []) ∷ (raised 4 ∷ raised 1 ∷ raised 1 ∷ raised 1 ∷ []) ∷ (raised 6 ∷ raised 0 ∷ raised 8 ∷ raised 1 ∷ []) ∷ (raised 6 ∷ raised 0 ∷ raised 36 ∷ raised 0 ∷ []) ∷ (raised 6 ∷ raised 0 ∷ raised 8 ∷ raised 0 ∷ []) ∷ (raised 6 ∷ raised 2 ∷ raised 7 ∷ raised 1 ∷ []) ∷ (raised 6 ∷ raised 1 ∷ raised 8 ∷ raised 1 ∷ []) ∷ (raised 6 ∷ raised 13 ∷ raised 23 ∷ raised 0 ∷ []) ∷ (raised 0 ∷ raised 4 ∷ raised 32 ∷ raised 0 ∷ []) ∷ (raised 6 ∷ raised 0 ∷ raised 8 ∷ raised 1 ∷ []) ∷ []) ∷ ([]) ∷ ([]) ∷ ([]) ∷ []; bits = 3211315057 ∷ 1048653216 ∷ 1057403477 ∷ 1064068210 ∷ 1056984786 ∷ 1059792490 ∷ 1046977624 ∷ 3206833764 ∷ 1019724936 ∷ 1022914928 ∷ 3185834664 ∷ 1048323840 ∷ 1045214665 ∷ 3176224916 ∷ 1065353216 ∷ 1047429592 ∷ 3185257650 ∷ 3173406060 ∷ 1047109970 ∷ 1036350322 ∷ 1025286404 ∷ 3166136464 ∷ 3186029132 ∷ 1042749355 ∷ 3192301752 ∷ 1041876631 ∷ 3180255546 ∷ 3160386032 ∷ 3167667064 ∷ 3191993899 ∷ 1045330263 ∷ 3195678968 ∷ 3193380623 ∷ 3195244830 ∷ 1043804426 ∷ 3165336520 ∷ 3162518040 ∷ 3187728759 ∷ 3184964376 ∷ 1046057408 ∷ 3194348276 ∷ 3157228560 ∷ 1046675700 ∷ 3188111288 ∷ 1042990683 ∷ 3180136160 ∷ 3175487132 ∷ 3195017915 ∷ 1046189141 ∷ 1043490759 ∷ 1011722608 ∷ 3187845873 ∷ 3195854853 ∷ 3193818784 ∷ 1043372321 ∷ 1046688432 ∷ 3183330144 ∷ 1 ∷ 1046237898 ∷ 1065353216 ∷ 1040923182 ∷ 1045772631 ∷ 1044637847 ∷ 3183974866 ∷ 996931712 ∷ 3191346750 ∷ 1065353216 ∷ 3181269710 ∷ 3193293744 ∷ 3171827192 ∷ 1035548314 ∷ 3192396576 ∷ []; visiting = 1055748332 ∷ 1039688552 ∷ 1009459584 ∷ 3194190463 ∷ 1060873231 ∷ 1031554768 ∷ 1061724878 ∷ 3206516839 ∷ 0 ∷ 3200680172 ∷ 3192983212 ∷ 1058233852 ∷ 1060911822 ∷ 3208307120 ∷ 1062802110 ∷ 1064548673 ∷ 3200491784 ∷ 3205597231 ∷ []; chosen = 4 ∷ [] };
      other = record { tables = ((raised 18080 ∷ raised 2 ∷ raised 4 ∷ raised 32 ∷ raised 12 ∷ raised 0 ∷ []) ∷ []) ∷ ((raised 0 ∷ raised 1 ∷ raised 1 ∷ []) ∷ []) ∷ ((raised 0 ∷ raised 355 ∷ []) ∷ (raised 1 ∷ raised_minus 1275 ∷ []) ∷ (raised 2 ∷ raised_minus 5999 ∷ []) ∷ (raised 0 ∷ raised_minus 3993 ∷ []) ∷ (raised 4 ∷ raised_minus 64340 ∷ []) ∷ (raised 5 ∷ raised_minus 2678 ∷ []) ∷ (raised 5 ∷ raised_minus 5774 ∷ []) ∷ []) ∷ ((raised_minus 5717 ∷ []) ∷ (raised 0 ∷ []) ∷ []) ∷ ((raised 6 ∷ raised 1 ∷ raised_minus 91 ∷ []) ∷ (raised 3 ∷ raised 1 ∷ raised_minus 220 ∷ []) ∷ []) ∷ ((raised 6 ∷ raised 0 ∷ raised 8 ∷ raised 1 ∷ []) ∷ (raised 6 ∷ raised 15 ∷ raised 8 ∷ raised 0 ∷ []) ∷ (raised 6 ∷ raised 4 ∷ raised 5 ∷ raised 1 ∷ []) ∷ (raised 6 ∷ raised 0 ∷ raised 9 ∷ raised 1 ∷ []) ∷ (raised 4 ∷ raised 1 ∷ raised 1 ∷ raised 1 ∷ []) ∷ (raised 6 ∷ raised 0 ∷ raised 9 ∷ raised 1 ∷ []) ∷ (raised 6 ∷ raised 15 ∷ raised 8 ∷ raised 0 ∷ []) ∷ (raised 0 ∷ raised 4 ∷ raised 32 ∷ raised 0 ∷ []) ∷ (raised 6 ∷ raised 0 ∷ raised 8 ∷ raised 1 ∷ []) ∷ (raised 6 ∷ raised 9 ∷ raised 0 ∷ raised 1 ∷ []) ∷ []) ∷ ([]) ∷ ([]) ∷ ((raised 3 ∷ raised 5 ∷ raised 7 ∷ raised 0 ∷ raised 1 ∷ raised 13 ∷ raised 999 ∷ raised 3 ∷ raised 1 ∷ raised 5 ∷ []) ∷ []) ∷ []; bits = 3139074107 ∷ 3116541864 ∷ 3134877998 ∷ 3139316028 ∷ 3132397442 ∷ 3103142912 ∷ 1065353216 ∷ 3145568706 ∷ 1019724936 ∷ 1022914928 ∷ 3185834664 ∷ 1048323840 ∷ 1045214665 ∷ 3176224916 ∷ 1065353216 ∷ 1047429592 ∷ 3185257650 ∷ 3173406060 ∷ 1047109970 ∷ 1036350322 ∷ 1025286404 ∷ 3166136464 ∷ 3186029132 ∷ 1042749355 ∷ 3192301752 ∷ 1041876631 ∷ 3180255546 ∷ 3160386032 ∷ 3167667064 ∷ 3191993899 ∷ 1045330263 ∷ 3195678968 ∷ 3193380623 ∷ 3195244830 ∷ 1043804426 ∷ 3165336520 ∷ 3162518040 ∷ 3187728759 ∷ 3184964376 ∷ 1046057408 ∷ 3194348276 ∷ 3157228560 ∷ 1046675700 ∷ 3188111288 ∷ 1042990683 ∷ 3180136160 ∷ 3175487132 ∷ 3195017915 ∷ 1046189141 ∷ 1043490759 ∷ 1011722608 ∷ 3187845873 ∷ 3195854853 ∷ 3193818784 ∷ 1043372321 ∷ 1046688432 ∷ 3183330144 ∷ 1 ∷ 1046237898 ∷ 1065353216 ∷ 1040923182 ∷ 1045772631 ∷ 1044637847 ∷ 3183974866 ∷ 996931712 ∷ 3191346750 ∷ 1065353216 ∷ 3181269710 ∷ 3193293744 ∷ 3171827192 ∷ 1035548314 ∷ 3192396576 ∷ 984385296 ∷ 3145207226 ∷ []; visiting = 992867865 ∷ 3141136616 ∷ 1009459584 ∷ 3194190463 ∷ 3140656862 ∷ 984390488 ∷ 991377669 ∷ 972384464 ∷ 984248492 ∷ 991089088 ∷ 993055336 ∷ 980473448 ∷ 996640468 ∷ 3139104614 ∷ 3140871325 ∷ 3144623286 ∷ 988442660 ∷ 978042364 ∷ []; chosen = 4 ∷ [] };
    }

abbrev pub pause_with_millis : Pair
pause_with_millis =
    record {
      one = record { tables = ((raised 82022 ∷ raised 2 ∷ raised 3 ∷ raised 32 ∷ raised 12 ∷ raised 0 ∷ []) ∷ []) ∷ ((raised 2 ∷ raised 60000000 ∷ raised 1 ∷ []) ∷ (raised 1 ∷ raised 500000 ∷ raised 1 ∷ []) ∷ []) ∷ ((raised 0 ∷ raised 50 ∷ []) ∷ (raised 1 ∷ raised_minus 2766 ∷ []) ∷ (raised 1 ∷ raised 2875 ∷ []) ∷ (raised 1 ∷ raised 2511 ∷ []) ∷ (raised 2 ∷ raised_minus 5433 ∷ []) ∷ (raised 2 ∷ raised 918 ∷ []) ∷ (raised 4 ∷ raised_minus 3355 ∷ []) ∷ (raised 7 ∷ raised_minus 4578 ∷ []) ∷ (raised 7 ∷ raised_minus 3998 ∷ []) ∷ (raised 4 ∷ raised_minus 5718 ∷ []) ∷ (raised 10 ∷ raised 666 ∷ []) ∷ []) ∷ ((raised_minus 3768 ∷ []) ∷ (raised 0 ∷ []) ∷ []) ∷ ([]) ∷ ((raised 11 ∷ raised 0 ∷ raised 8 ∷ raised 1 ∷ []) ∷ (raised 11 ∷ raised 0 ∷ raised 32 ∷ raised 0 ∷ []) ∷ (raised 11 ∷ raised 31 ∷ raised 1 ∷ raised 0 ∷ []) ∷ (raised 0 ∷ raised 0 ∷ raised 32 ∷ raised 0 ∷ []) ∷ (raised 11 ∷ raised 4 ∷ raised 5 ∷ raised 1 ∷ []) ∷ (raised 11 ∷ raised 3 ∷ raised 6 ∷ raised 1 ∷ []) ∷ (raised 11 ∷ raised 0 ∷ raised 32 ∷ raised 0 ∷ []) ∷ (raised 11 ∷ raised 0 ∷ raised 8 ∷ raised 1 ∷ []) ∷ (raised 11 ∷ raised 1 ∷ raised 8 ∷ raised 0 ∷ []) ∷ []) ∷ ([]) ∷ ([]) ∷ ((raised 0 ∷ raised 4 ∷ raised 1 ∷ raised 0 ∷ raised 0 ∷ raised 0 ∷ raised 0 ∷ raised 1 ∷ raised 1 ∷ raised 6 ∷ []) ∷ []) ∷ []; bits = 995237495 ∷ 2147483648 ∷ 3145106865 ∷ 995125650 ∷ 992933955 ∷ 3130814104 ∷ 3121016944 ∷ 964363248 ∷ 974868008 ∷ 997040318 ∷ 988173134 ∷ 3138855967 ∷ 3122410656 ∷ 1 ∷ 3212836864 ∷ 984790158 ∷ 995502800 ∷ 2147483648 ∷ 3136413300 ∷ 3212836864 ∷ 3142947939 ∷ 997042962 ∷ 3133475422 ∷ 3141903746 ∷ 3137618049 ∷ 996361341 ∷ 3142232782 ∷ 995551420 ∷ 3135940402 ∷ 977244940 ∷ 3139777219 ∷ 991578642 ∷ 3144556937 ∷ 3133857360 ∷ 3127259824 ∷ 972792216 ∷ 995043265 ∷ 3136998550 ∷ 987476458 ∷ 998036266 ∷ 995321203 ∷ 990070276 ∷ 3144333875 ∷ 3141420655 ∷ 3144449541 ∷ 964328656 ∷ 2147483648 ∷ 974648180 ∷ 986017688 ∷ 3103895184 ∷ 996874753 ∷ 3134141782 ∷ 3143550153 ∷ 3114298496 ∷ 3122822392 ∷ 3115473616 ∷ 974968684 ∷ 981896624 ∷ 3135790062 ∷ 994103898 ∷ 3132170068 ∷ 994544632 ∷ 3141143366 ∷ 990698802 ∷ []; visiting = 3197263576 ∷ 3196920264 ∷ 2147483648 ∷ 3209243442 ∷ 1064718978 ∷ 1059124009 ∷ 3197737110 ∷ 1061563334 ∷ 1051175548 ∷ 3209221444 ∷ 3188072016 ∷ 3188995392 ∷ 1054383956 ∷ 3199770130 ∷ 3212416122 ∷ 3184759952 ∷ 3204327196 ∷ 1058095239 ∷ []; chosen = 0 ∷ [] };
      other = record { tables = ((raised 82022 ∷ raised 2 ∷ raised 3 ∷ raised 32 ∷ raised 12 ∷ raised 0 ∷ []) ∷ []) ∷ ((raised 2 ∷ raised 60000000 ∷ raised 1 ∷ []) ∷ (raised 1 ∷ raised 500000 ∷ raised 1 ∷ []) ∷ []) ∷ ((raised 0 ∷ raised 50 ∷ []) ∷ (raised 1 ∷ raised 1334 ∷ []) ∷ (raised 2 ∷ raised 1155 ∷ []) ∷ (raised 3 ∷ raised 1042 ∷ []) ∷ []) ∷ ((raised_minus 3768 ∷ []) ∷ (raised 0 ∷ []) ∷ []) ∷ ((raised 3 ∷ raised 1 ∷ raised_minus 5400 ∷ []) ∷ (raised 2 ∷ raised 2 ∷ raised_minus 2257 ∷ []) ∷ (raised 3 ∷ raised 2 ∷ raised 2465 ∷ []) ∷ (raised 4 ∷ raised 2 ∷ raised 1762 ∷ []) ∷ (raised 2 ∷ raised 1 ∷ raised_minus 4214 ∷ []) ∷ (raised 4 ∷ raised 1 ∷ raised 792 ∷ []) ∷ []) ∷ ((raised 0 ∷ raised 0 ∷ raised 32 ∷ raised 0 ∷ []) ∷ (raised 4 ∷ raised 6 ∷ raised 2 ∷ raised 1 ∷ []) ∷ (raised 4 ∷ raised 0 ∷ raised 8 ∷ raised 1 ∷ []) ∷ (raised 4 ∷ raised 0 ∷ raised 32 ∷ raised 0 ∷ []) ∷ (raised 4 ∷ raised 2 ∷ raised 6 ∷ raised 1 ∷ []) ∷ (raised 4 ∷ raised 0 ∷ raised 8 ∷ raised 1 ∷ []) ∷ (raised 4 ∷ raised 0 ∷ raised 8 ∷ raised 1 ∷ []) ∷ (raised 4 ∷ raised 3 ∷ raised 5 ∷ raised 1 ∷ []) ∷ (raised 4 ∷ raised 0 ∷ raised 8 ∷ raised 0 ∷ []) ∷ []) ∷ ([]) ∷ ([]) ∷ ((raised 0 ∷ raised 4 ∷ raised 1 ∷ raised 0 ∷ raised 0 ∷ raised 0 ∷ raised 0 ∷ raised 1 ∷ raised 1 ∷ raised 6 ∷ []) ∷ (raised 6 ∷ raised 3 ∷ raised 3 ∷ raised_minus 5240 ∷ raised 0 ∷ raised 0 ∷ raised 0 ∷ raised 0 ∷ raised 3 ∷ raised 2 ∷ []) ∷ []) ∷ []; bits = 995237495 ∷ 2147483648 ∷ 3145106865 ∷ 995125650 ∷ 992933955 ∷ 3130814104 ∷ 3121016944 ∷ 964363248 ∷ 974868008 ∷ 997040318 ∷ 988173134 ∷ 3138855967 ∷ 3122410656 ∷ 1 ∷ 3212836864 ∷ 984790158 ∷ 995502800 ∷ 2147483648 ∷ 3136413300 ∷ 3212836864 ∷ 3142947939 ∷ 997042962 ∷ 3133475422 ∷ 3141903746 ∷ 3137618049 ∷ 996361341 ∷ 3142232782 ∷ 995551420 ∷ 3135940402 ∷ 977244940 ∷ 3139777219 ∷ 991578642 ∷ 3144556937 ∷ 3133857360 ∷ 3127259824 ∷ 972792216 ∷ 995043265 ∷ 3136998550 ∷ 987476458 ∷ 998036266 ∷ 995321203 ∷ 990070276 ∷ 3144333875 ∷ 3141420655 ∷ 3144449541 ∷ 964328656 ∷ 2147483648 ∷ 974648180 ∷ 986017688 ∷ 3103895184 ∷ 996874753 ∷ 3134141782 ∷ 3143550153 ∷ 3114298496 ∷ 3122822392 ∷ 3115473616 ∷ 974968684 ∷ 981896624 ∷ 3135790062 ∷ 994103898 ∷ 3132170068 ∷ 994544632 ∷ 3141143366 ∷ 990698802 ∷ []; visiting = 1060934561 ∷ 3207269910 ∷ 1051775664 ∷ 3203175408 ∷ 3190728828 ∷ 1048758804 ∷ 1056964608 ∷ 1051503332 ∷ 2147483648 ∷ 1065353216 ∷ 1057221076 ∷ 1036095352 ∷ 3198358984 ∷ 1034286088 ∷ 3147560192 ∷ 3205561158 ∷ []; chosen = 0 ∷ [] };
    }

abbrev pub pause_with_when : Pair
pause_with_when =
    record {
      one = record { tables = ((raised 82022 ∷ raised 2 ∷ raised 3 ∷ raised 32 ∷ raised 12 ∷ raised 0 ∷ []) ∷ []) ∷ ((raised 2 ∷ raised 60000000 ∷ raised 1 ∷ []) ∷ (raised 1 ∷ raised 500000 ∷ raised 1 ∷ []) ∷ []) ∷ ((raised 0 ∷ raised 50 ∷ []) ∷ (raised 1 ∷ raised_minus 2766 ∷ []) ∷ (raised 1 ∷ raised 2875 ∷ []) ∷ (raised 1 ∷ raised 2511 ∷ []) ∷ (raised 2 ∷ raised_minus 5433 ∷ []) ∷ (raised 2 ∷ raised 918 ∷ []) ∷ (raised 4 ∷ raised_minus 3355 ∷ []) ∷ (raised 7 ∷ raised_minus 4578 ∷ []) ∷ (raised 7 ∷ raised_minus 3998 ∷ []) ∷ (raised 4 ∷ raised_minus 5718 ∷ []) ∷ (raised 10 ∷ raised 666 ∷ []) ∷ []) ∷ ((raised_minus 3768 ∷ []) ∷ (raised 0 ∷ []) ∷ []) ∷ ([]) ∷ ((raised 11 ∷ raised 0 ∷ raised 8 ∷ raised 1 ∷ []) ∷ (raised 11 ∷ raised 0 ∷ raised 32 ∷ raised 0 ∷ []) ∷ (raised 11 ∷ raised 31 ∷ raised 1 ∷ raised 0 ∷ []) ∷ (raised 0 ∷ raised 0 ∷ raised 32 ∷ raised 0 ∷ []) ∷ (raised 11 ∷ raised 4 ∷ raised 5 ∷ raised 1 ∷ []) ∷ (raised 11 ∷ raised 3 ∷ raised 6 ∷ raised 1 ∷ []) ∷ (raised 11 ∷ raised 0 ∷ raised 32 ∷ raised 0 ∷ []) ∷ (raised 11 ∷ raised 0 ∷ raised 8 ∷ raised 1 ∷ []) ∷ (raised 11 ∷ raised 1 ∷ raised 8 ∷ raised 0 ∷ []) ∷ []) ∷ ([]) ∷ ([]) ∷ ((raised 0 ∷ raised 4 ∷ raised 1 ∷ raised 0 ∷ raised 0 ∷ raised 1 ∷ raised 0 ∷ raised 1 ∷ raised 1 ∷ raised 6 ∷ []) ∷ []) ∷ []; bits = 995237495 ∷ 2147483648 ∷ 3145106865 ∷ 995125650 ∷ 992933955 ∷ 3130814104 ∷ 3121016944 ∷ 964363248 ∷ 974868008 ∷ 997040318 ∷ 988173134 ∷ 3138855967 ∷ 3122410656 ∷ 1 ∷ 3212836864 ∷ 984790158 ∷ 995502800 ∷ 2147483648 ∷ 3136413300 ∷ 3212836864 ∷ 3142947939 ∷ 997042962 ∷ 3133475422 ∷ 3141903746 ∷ 3137618049 ∷ 996361341 ∷ 3142232782 ∷ 995551420 ∷ 3135940402 ∷ 977244940 ∷ 3139777219 ∷ 991578642 ∷ 3144556937 ∷ 3133857360 ∷ 3127259824 ∷ 972792216 ∷ 995043265 ∷ 3136998550 ∷ 987476458 ∷ 998036266 ∷ 995321203 ∷ 990070276 ∷ 3144333875 ∷ 3141420655 ∷ 3144449541 ∷ 964328656 ∷ 2147483648 ∷ 974648180 ∷ 986017688 ∷ 3103895184 ∷ 996874753 ∷ 3134141782 ∷ 3143550153 ∷ 3114298496 ∷ 3122822392 ∷ 3115473616 ∷ 974968684 ∷ 981896624 ∷ 3135790062 ∷ 994103898 ∷ 3132170068 ∷ 994544632 ∷ 3141143366 ∷ 990698802 ∷ []; visiting = 3197263576 ∷ 3196920264 ∷ 2147483648 ∷ 3209243442 ∷ 1064718978 ∷ 1059124009 ∷ 3197737110 ∷ 1061563334 ∷ 1051175548 ∷ 3209221444 ∷ 3188072016 ∷ 3188995392 ∷ 1054383956 ∷ 3199770130 ∷ 3212416122 ∷ 3184759952 ∷ 3204327196 ∷ 1058095239 ∷ []; chosen = 0 ∷ [] };
      other = record { tables = ((raised 82022 ∷ raised 2 ∷ raised 3 ∷ raised 32 ∷ raised 12 ∷ raised 0 ∷ []) ∷ []) ∷ ((raised 2 ∷ raised 60000000 ∷ raised 1 ∷ []) ∷ (raised 1 ∷ raised 500000 ∷ raised 1 ∷ []) ∷ []) ∷ ((raised 0 ∷ raised 50 ∷ []) ∷ (raised 1 ∷ raised 1334 ∷ []) ∷ (raised 2 ∷ raised 1155 ∷ []) ∷ (raised 3 ∷ raised 1042 ∷ []) ∷ []) ∷ ((raised_minus 3768 ∷ []) ∷ (raised 0 ∷ []) ∷ []) ∷ ((raised 3 ∷ raised 1 ∷ raised_minus 5400 ∷ []) ∷ (raised 2 ∷ raised 2 ∷ raised_minus 2257 ∷ []) ∷ (raised 3 ∷ raised 2 ∷ raised 2465 ∷ []) ∷ (raised 4 ∷ raised 2 ∷ raised 1762 ∷ []) ∷ (raised 2 ∷ raised 1 ∷ raised_minus 4214 ∷ []) ∷ (raised 4 ∷ raised 1 ∷ raised 792 ∷ []) ∷ []) ∷ ((raised 0 ∷ raised 0 ∷ raised 32 ∷ raised 0 ∷ []) ∷ (raised 4 ∷ raised 6 ∷ raised 2 ∷ raised 1 ∷ []) ∷ (raised 4 ∷ raised 0 ∷ raised 8 ∷ raised 1 ∷ []) ∷ (raised 4 ∷ raised 0 ∷ raised 32 ∷ raised 0 ∷ []) ∷ (raised 4 ∷ raised 2 ∷ raised 6 ∷ raised 1 ∷ []) ∷ (raised 4 ∷ raised 0 ∷ raised 8 ∷ raised 1 ∷ []) ∷ (raised 4 ∷ raised 0 ∷ raised 8 ∷ raised 1 ∷ []) ∷ (raised 4 ∷ raised 3 ∷ raised 5 ∷ raised 1 ∷ []) ∷ (raised 4 ∷ raised 0 ∷ raised 8 ∷ raised 0 ∷ []) ∷ []) ∷ ([]) ∷ ([]) ∷ ((raised 0 ∷ raised 4 ∷ raised 1 ∷ raised 0 ∷ raised 0 ∷ raised 1 ∷ raised 0 ∷ raised 1 ∷ raised 1 ∷ raised 6 ∷ []) ∷ (raised 6 ∷ raised 3 ∷ raised 3 ∷ raised_minus 5240 ∷ raised 0 ∷ raised 0 ∷ raised 0 ∷ raised 0 ∷ raised 3 ∷ raised 2 ∷ []) ∷ []) ∷ []; bits = 995237495 ∷ 2147483648 ∷ 3145106865 ∷ 995125650 ∷ 992933955 ∷ 3130814104 ∷ 3121016944 ∷ 964363248 ∷ 974868008 ∷ 997040318 ∷ 988173134 ∷ 3138855967 ∷ 3122410656 ∷ 1 ∷ 3212836864 ∷ 984790158 ∷ 995502800 ∷ 2147483648 ∷ 3136413300 ∷ 3212836864 ∷ 3142947939 ∷ 997042962 ∷ 3133475422 ∷ 3141903746 ∷ 3137618049 ∷ 996361341 ∷ 3142232782 ∷ 995551420 ∷ 3135940402 ∷ 977244940 ∷ 3139777219 ∷ 991578642 ∷ 3144556937 ∷ 3133857360 ∷ 3127259824 ∷ 972792216 ∷ 995043265 ∷ 3136998550 ∷ 987476458 ∷ 998036266 ∷ 995321203 ∷ 990070276 ∷ 3144333875 ∷ 3141420655 ∷ 3144449541 ∷ 964328656 ∷ 2147483648 ∷ 974648180 ∷ 986017688 ∷ 3103895184 ∷ 996874753 ∷ 3134141782 ∷ 3143550153 ∷ 3114298496 ∷ 3122822392 ∷ 3115473616 ∷ 974968684 ∷ 981896624 ∷ 3135790062 ∷ 994103898 ∷ 3132170068 ∷ 994544632 ∷ 3141143366 ∷ 990698802 ∷ []; visiting = 1060934561 ∷ 3207269910 ∷ 1051775664 ∷ 3203175408 ∷ 3190728828 ∷ 1048758804 ∷ 1056964608 ∷ 1051503332 ∷ 2147483648 ∷ 1065353216 ∷ 1057221076 ∷ 1036095352 ∷ 3198358984 ∷ 1034286088 ∷ 3147560192 ∷ 3205561158 ∷ []; chosen = 0 ∷ [] };
    }

abbrev pub pause_in_block1 : Pair
pause_in_block1 =
    record {
      one = record { tables = ((raised 82022 ∷ raised 2 ∷ raised 3 ∷ raised 32 ∷ raised 12 ∷ raised 0 ∷ []) ∷ []) ∷ ((raised 2 ∷ raised 60000000 ∷ raised 1 ∷ []) ∷ (raised 1 ∷ raised 500000 ∷ raised 1 ∷ []) ∷ []) ∷ ((raised 0 ∷ raised 50 ∷ []) ∷ (raised 1 ∷ raised_minus 2766 ∷ []) ∷ (raised 1 ∷ raised 2875 ∷ []) ∷ (raised 1 ∷ raised 2511 ∷ []) ∷ (raised 2 ∷ raised_minus 5433 ∷ []) ∷ (raised 2 ∷ raised 918 ∷ []) ∷ (raised 4 ∷ raised_minus 3355 ∷ []) ∷ (raised 7 ∷ raised_minus 4578 ∷ []) ∷ (raised 7 ∷ raised_minus 3998 ∷ []) ∷ (raised 4 ∷ raised_minus 5718 ∷ []) ∷ (raised 10 ∷ raised 666 ∷ []) ∷ []) ∷ ((raised_minus 3768 ∷ []) ∷ (raised 0 ∷ []) ∷ []) ∷ ([]) ∷ ((raised 11 ∷ raised 0 ∷ raised 8 ∷ raised 1 ∷ []) ∷ (raised 11 ∷ raised 0 ∷ raised 32 ∷ raised 0 ∷ []) ∷ (raised 11 ∷ raised 31 ∷ raised 1 ∷ raised 0 ∷ []) ∷ (raised 0 ∷ raised 0 ∷ raised 32 ∷ raised 0 ∷ []) ∷ (raised 11 ∷ raised 4 ∷ raised 5 ∷ raised 1 ∷ []) ∷ (raised 11 ∷ raised 3 ∷ raised 6 ∷ raised 1 ∷ []) ∷ (raised 11 ∷ raised 0 ∷ raised 32 ∷ raised 0 ∷ []) ∷ (raised 11 ∷ raised 0 ∷ raised 8 ∷ raised 1 ∷ []) ∷ (raised 11 ∷ raised 1 ∷ raised 8 ∷ raised 0 ∷ []) ∷ []) ∷ ([]) ∷ ([]) ∷ ((raised 1 ∷ raised 4 ∷ raised 1 ∷ raised 0 ∷ raised 0 ∷ raised 0 ∷ raised 0 ∷ raised 0 ∷ raised 1 ∷ raised 6 ∷ []) ∷ []) ∷ []; bits = 995237495 ∷ 2147483648 ∷ 3145106865 ∷ 995125650 ∷ 992933955 ∷ 3130814104 ∷ 3121016944 ∷ 964363248 ∷ 974868008 ∷ 997040318 ∷ 988173134 ∷ 3138855967 ∷ 3122410656 ∷ 1 ∷ 3212836864 ∷ 984790158 ∷ 995502800 ∷ 2147483648 ∷ 3136413300 ∷ 3212836864 ∷ 3142947939 ∷ 997042962 ∷ 3133475422 ∷ 3141903746 ∷ 3137618049 ∷ 996361341 ∷ 3142232782 ∷ 995551420 ∷ 3135940402 ∷ 977244940 ∷ 3139777219 ∷ 991578642 ∷ 3144556937 ∷ 3133857360 ∷ 3127259824 ∷ 972792216 ∷ 995043265 ∷ 3136998550 ∷ 987476458 ∷ 998036266 ∷ 995321203 ∷ 990070276 ∷ 3144333875 ∷ 3141420655 ∷ 3144449541 ∷ 964328656 ∷ 2147483648 ∷ 974648180 ∷ 986017688 ∷ 3103895184 ∷ 996874753 ∷ 3134141782 ∷ 3143550153 ∷ 3114298496 ∷ 3122822392 ∷ 3115473616 ∷ 974968684 ∷ 981896624 ∷ 3135790062 ∷ 994103898 ∷ 3132170068 ∷ 994544632 ∷ 3141143366 ∷ 990698802 ∷ []; visiting = 3197263576 ∷ 3196920264 ∷ 2147483648 ∷ 3209243442 ∷ 1064718978 ∷ 1059124009 ∷ 3197737110 ∷ 1061563334 ∷ 1051175548 ∷ 3209221444 ∷ 3188072016 ∷ 3188995392 ∷ 1054383956 ∷ 3199770130 ∷ 3212416122 ∷ 3184759952 ∷ 3204327196 ∷ 1058095239 ∷ []; chosen = 0 ∷ [] };
      other = record { tables = ((raised 82022 ∷ raised 2 ∷ raised 3 ∷ raised 32 ∷ raised 12 ∷ raised 0 ∷ []) ∷ []) ∷ ((raised 2 ∷ raised 60000000 ∷ raised 1 ∷ []) ∷ (raised 1 ∷ raised 500000 ∷ raised 1 ∷ []) ∷ []) ∷ ((raised 0 ∷ raised 50 ∷ []) ∷ (raised 1 ∷ raised 1334 ∷ []) ∷ (raised 2 ∷ raised 1155 ∷ []) ∷ (raised 3 ∷ raised 1042 ∷ []) ∷ []) ∷ ((raised_minus 3768 ∷ []) ∷ (raised 0 ∷ []) ∷ []) ∷ ((raised 3 ∷ raised 1 ∷ raised_minus 5400 ∷ []) ∷ (raised 2 ∷ raised 2 ∷ raised_minus 2257 ∷ []) ∷ (raised 3 ∷ raised 2 ∷ raised 2465 ∷ []) ∷ (raised 4 ∷ raised 2 ∷ raised 1762 ∷ []) ∷ (raised 2 ∷ raised 1 ∷ raised_minus 4214 ∷ []) ∷ (raised 4 ∷ raised 1 ∷ raised 792 ∷ []) ∷ []) ∷ ((raised 0 ∷ raised 0 ∷ raised 32 ∷ raised 0 ∷ []) ∷ (raised 4 ∷ raised 6 ∷ raised 2 ∷ raised 1 ∷ []) ∷ (raised 4 ∷ raised 0 ∷ raised 8 ∷ raised 1 ∷ []) ∷ (raised 4 ∷ raised 0 ∷ raised 32 ∷ raised 0 ∷ []) ∷ (raised 4 ∷ raised 2 ∷ raised 6 ∷ raised 1 ∷ []) ∷ (raised 4 ∷ raised 0 ∷ raised 8 ∷ raised 1 ∷ []) ∷ (raised 4 ∷ raised 0 ∷ raised 8 ∷ raised 1 ∷ []) ∷ (raised 4 ∷ raised 3 ∷ raised 5 ∷ raised 1 ∷ []) ∷ (raised 4 ∷ raised 0 ∷ raised 8 ∷ raised 0 ∷ []) ∷ []) ∷ ([]) ∷ ([]) ∷ ((raised 1 ∷ raised 4 ∷ raised 1 ∷ raised 0 ∷ raised 0 ∷ raised 0 ∷ raised 0 ∷ raised 0 ∷ raised 1 ∷ raised 6 ∷ []) ∷ (raised 6 ∷ raised 3 ∷ raised 3 ∷ raised_minus 5240 ∷ raised 0 ∷ raised 0 ∷ raised 0 ∷ raised 0 ∷ raised 3 ∷ raised 2 ∷ []) ∷ []) ∷ []; bits = 995237495 ∷ 2147483648 ∷ 3145106865 ∷ 995125650 ∷ 992933955 ∷ 3130814104 ∷ 3121016944 ∷ 964363248 ∷ 974868008 ∷ 997040318 ∷ 988173134 ∷ 3138855967 ∷ 3122410656 ∷ 1 ∷ 3212836864 ∷ 984790158 ∷ 995502800 ∷ 2147483648 ∷ 3136413300 ∷ 3212836864 ∷ 3142947939 ∷ 997042962 ∷ 3133475422 ∷ 3141903746 ∷ 3137618049 ∷ 996361341 ∷ 3142232782 ∷ 995551420 ∷ 3135940402 ∷ 977244940 ∷ 3139777219 ∷ 991578642 ∷ 3144556937 ∷ 3133857360 ∷ 3127259824 ∷ 972792216 ∷ 995043265 ∷ 3136998550 ∷ 987476458 ∷ 998036266 ∷ 995321203 ∷ 990070276 ∷ 3144333875 ∷ 3141420655 ∷ 3144449541 ∷ 964328656 ∷ 2147483648 ∷ 974648180 ∷ 986017688 ∷ 3103895184 ∷ 996874753 ∷ 3134141782 ∷ 3143550153 ∷ 3114298496 ∷ 3122822392 ∷ 3115473616 ∷ 974968684 ∷ 981896624 ∷ 3135790062 ∷ 994103898 ∷ 3132170068 ∷ 994544632 ∷ 3141143366 ∷ 990698802 ∷ []; visiting = 1060934561 ∷ 3207269910 ∷ 1051775664 ∷ 3203175408 ∷ 3190728828 ∷ 1048758804 ∷ 1056964608 ∷ 1051503332 ∷ 2147483648 ∷ 1065353216 ∷ 1057221076 ∷ 1036095352 ∷ 3198358984 ∷ 1034286088 ∷ 3147560192 ∷ 3205561158 ∷ []; chosen = 0 ∷ [] };
    }

abbrev pub second_pause : Pair
second_pause =
    record {
      one = record { tables = ((raised 53194 ∷ raised 3 ∷ raised 2 ∷ raised 32 ∷ raised 12 ∷ raised 0 ∷ []) ∷ []) ∷ ((raised 0 ∷ raised 61 ∷ raised 1 ∷ []) ∷ []) ∷ ((raised 0 ∷ raised_minus 2271 ∷ []) ∷ (raised 1 ∷ raised_minus 4900 ∷ []) ∷ []) ∷ ((raised 0 ∷ []) ∷ []) ∷ ((raised 2 ∷ raised 1 ∷ raised_minus 4866 ∷ []) ∷ []) ∷ ((raised 2 ∷ raised 3 ∷ raised 6 ∷ raised 1 ∷ []) ∷ (raised 2 ∷ raised 0 ∷ raised 10 ∷ raised 0 ∷ []) ∷ (raised 2 ∷ raised 0 ∷ raised 9 ∷ raised 1 ∷ []) ∷ (raised 2 ∷ raised 0 ∷ raised 8 ∷ raised 1 ∷ []) ∷ (raised 2 ∷ raised 29 ∷ raised 4 ∷ raised 0 ∷ []) ∷ (raised 0 ∷ raised 0 ∷ raised 32 ∷ raised 0 ∷ []) ∷ (raised 2 ∷ raised 12 ∷ raised 8 ∷ raised 0 ∷ []) ∷ (raised 2 ∷ raised 0 ∷ raised 9 ∷ raised 1 ∷ []) ∷ (raised 2 ∷ raised 0 ∷ raised 8 ∷ raised 1 ∷ []) ∷ []) ∷ ([]) ∷ ([]) ∷ ((raised 3 ∷ raised 4 ∷ raised 1 ∷ raised 0 ∷ raised 0 ∷ raised 0 ∷ raised 0 ∷ raised 18 ∷ raised 1 ∷ raised 5 ∷ []) ∷ (raised 0 ∷ raised 4 ∷ raised 1 ∷ raised 0 ∷ raised 0 ∷ raised 0 ∷ raised 0 ∷ raised 0 ∷ raised 1 ∷ raised 8 ∷ []) ∷ []) ∷ []; bits = 3202391814 ∷ 1060982795 ∷ 1048266164 ∷ 2147483648 ∷ 3212228231 ∷ 3186330352 ∷ 1025039616 ∷ 3199252248 ∷ 1047101536 ∷ 1052155368 ∷ 1427248 ∷ 1055457834 ∷ 1 ∷ 3201125810 ∷ 3204531095 ∷ 1049937832 ∷ 3206911409 ∷ 1054331388 ∷ 3209305076 ∷ 3212032009 ∷ 3196991020 ∷ 1058038334 ∷ 3211341077 ∷ 1053749330 ∷ 3206135623 ∷ 3197101902 ∷ 3198352122 ∷ 1061642844 ∷ 3212086416 ∷ 3202986394 ∷ 3197230824 ∷ 3205740304 ∷ 1045351836 ∷ 3210405014 ∷ 3196625104 ∷ 3193731360 ∷ 1044971688 ∷ 3199547538 ∷ 3212632017 ∷ 3194517356 ∷ 1041220232 ∷ 3210262713 ∷ 1060371052 ∷ 3205005317 ∷ 1065271345 ∷ 1040851572 ∷ 1052683306 ∷ 3207626055 ∷ 3203540222 ∷ 3196059648 ∷ 3200774066 ∷ 3160689536 ∷ 3211638263 ∷ 1062762605 ∷ 990274304 ∷ 3207946517 ∷ 1057832437 ∷ 1050106314 ∷ 3212065155 ∷ 1052303806 ∷ 1054174060 ∷ 1063339980 ∷ 3211658349 ∷ 3192589304 ∷ 3188707954 ∷ 3173300292 ∷ []; visiting = 2147483649 ∷ 1010145774 ∷ 1065353216 ∷ 1022518821 ∷ 3168579702 ∷ 1015437136 ∷ 3119985216 ∷ 990300496 ∷ 3091852288 ∷ 1016492985 ∷ 3144532824 ∷ 3117113920 ∷ 3167212386 ∷ 1013341916 ∷ 1006744244 ∷ 3164950944 ∷ 3168567381 ∷ 3157846408 ∷ []; chosen = 0 ∷ [] };
      other = record { tables = ((raised 53194 ∷ raised 3 ∷ raised 2 ∷ raised 32 ∷ raised 12 ∷ raised 0 ∷ []) ∷ []) ∷ ((raised 0 ∷ raised 61 ∷ raised 1 ∷ []) ∷ []) ∷ ((raised 0 ∷ raised_minus 2271 ∷ []) ∷ (raised 1 ∷ raised 1670 ∷ []) ∷ (raised 1 ∷ raised 1113 ∷ []) ∷ (raised 3 ∷ raised_minus 1888 ∷ []) ∷ (raised 1 ∷ raised 2149 ∷ []) ∷ (raised 2 ∷ raised_minus 4107 ∷ []) ∷ (raised 6 ∷ raised 2889 ∷ []) ∷ []) ∷ ((raised 0 ∷ []) ∷ []) ∷ ((raised 5 ∷ raised 1 ∷ raised 975 ∷ []) ∷ (raised 4 ∷ raised 1 ∷ raised 2400 ∷ []) ∷ []) ∷ ((raised 5 ∷ raised 0 ∷ raised 8 ∷ raised 0 ∷ []) ∷ (raised 5 ∷ raised 0 ∷ raised 9 ∷ raised 1 ∷ []) ∷ (raised 5 ∷ raised 0 ∷ raised 8 ∷ raised 1 ∷ []) ∷ (raised 5 ∷ raised 1 ∷ raised 8 ∷ raised 1 ∷ []) ∷ (raised 5 ∷ raised 0 ∷ raised 9 ∷ raised 1 ∷ []) ∷ (raised 5 ∷ raised 5 ∷ raised 4 ∷ raised 1 ∷ []) ∷ (raised 5 ∷ raised 1 ∷ raised 32 ∷ raised 0 ∷ []) ∷ (raised 0 ∷ raised 0 ∷ raised 32 ∷ raised 0 ∷ []) ∷ (raised 5 ∷ raised 0 ∷ raised 9 ∷ raised 1 ∷ []) ∷ []) ∷ ([]) ∷ ([]) ∷ ((raised 3 ∷ raised 4 ∷ raised 1 ∷ raised 0 ∷ raised 0 ∷ raised 0 ∷ raised 0 ∷ raised 18 ∷ raised 1 ∷ raised 5 ∷ []) ∷ (raised 0 ∷ raised 4 ∷ raised 1 ∷ raised 0 ∷ raised 0 ∷ raised 0 ∷ raised 0 ∷ raised 0 ∷ raised 1 ∷ raised 8 ∷ []) ∷ []) ∷ []; bits = 3202391814 ∷ 1060982795 ∷ 1048266164 ∷ 2147483648 ∷ 3212228231 ∷ 3186330352 ∷ 1025039616 ∷ 3199252248 ∷ 1047101536 ∷ 1052155368 ∷ 1427248 ∷ 1055457834 ∷ 1 ∷ 3201125810 ∷ 3204531095 ∷ 1049937832 ∷ 3206911409 ∷ 1054331388 ∷ 3209305076 ∷ 3212032009 ∷ 3196991020 ∷ 1058038334 ∷ 3211341077 ∷ 1053749330 ∷ 3206135623 ∷ 3197101902 ∷ 3198352122 ∷ 1061642844 ∷ 3212086416 ∷ 3202986394 ∷ 3197230824 ∷ 3205740304 ∷ 1045351836 ∷ 3210405014 ∷ 3196625104 ∷ 3193731360 ∷ 1044971688 ∷ 3199547538 ∷ 3212632017 ∷ 3194517356 ∷ 1041220232 ∷ 3210262713 ∷ 1060371052 ∷ 3205005317 ∷ 1065271345 ∷ 1040851572 ∷ 1052683306 ∷ 3207626055 ∷ 3203540222 ∷ 3196059648 ∷ 3200774066 ∷ 3160689536 ∷ 3211638263 ∷ 1062762605 ∷ 990274304 ∷ 3207946517 ∷ 1057832437 ∷ 1050106314 ∷ 3212065155 ∷ 1052303806 ∷ 1054174060 ∷ 1063339980 ∷ 3211658349 ∷ 3192589304 ∷ 1065232656 ∷ 1044506660 ∷ []; visiting = 3189564500 ∷ 3184326548 ∷ 3189016328 ∷ 1043406278 ∷ 1040650991 ∷ 3193069371 ∷ 1047385925 ∷ 3188517763 ∷ 3168160032 ∷ 1065353216 ∷ 3177992848 ∷ 1039778720 ∷ 1020951472 ∷ 1043940252 ∷ 3195180088 ∷ 1031167540 ∷ 3181875282 ∷ 1003812992 ∷ []; chosen = 0 ∷ [] };
    }

abbrev pub resume : Pair
resume =
    record {
      one = record { tables = ((raised 86089 ∷ raised 1 ∷ raised 5 ∷ raised 32 ∷ raised 12 ∷ raised 0 ∷ []) ∷ []) ∷ ([]) ∷ ((raised 0 ∷ raised_minus 1408 ∷ []) ∷ (raised 0 ∷ raised 1362 ∷ []) ∷ (raised 1 ∷ raised 232 ∷ []) ∷ (raised 1 ∷ raised_minus 5335 ∷ []) ∷ (raised 4 ∷ raised 1030 ∷ []) ∷ (raised 5 ∷ raised 2456 ∷ []) ∷ (raised 5 ∷ raised_minus 406 ∷ []) ∷ []) ∷ ((raised_minus 769 ∷ []) ∷ (raised 0 ∷ []) ∷ []) ∷ ((raised 2 ∷ raised 1 ∷ raised_minus 2097 ∷ []) ∷ (raised 1 ∷ raised 1 ∷ raised_minus 543 ∷ []) ∷ []) ∷ ((raised 6 ∷ raised 6 ∷ raised 3 ∷ raised 1 ∷ []) ∷ (raised 6 ∷ raised 13 ∷ raised 22 ∷ raised 0 ∷ []) ∷ (raised 6 ∷ raised 0 ∷ raised 8 ∷ raised 0 ∷ []) ∷ (raised 0 ∷ raised 3 ∷ raised 32 ∷ raised 0 ∷ []) ∷ (raised 6 ∷ raised 6 ∷ raised 3 ∷ raised 1 ∷ []) ∷ (raised 6 ∷ raised 0 ∷ raised 9 ∷ raised 1 ∷ []) ∷ (raised 6 ∷ raised 4 ∷ raised 8 ∷ raised 0 ∷ []) ∷ (raised 6 ∷ raised 3 ∷ raised 6 ∷ raised 1 ∷ []) ∷ (raised 6 ∷ raised 0 ∷ raised 16 ∷ raised 0 ∷ []) ∷ []) ∷ ([]) ∷ ([]) ∷ ((raised 2 ∷ raised 5 ∷ raised 1 ∷ raised 0 ∷ raised 0 ∷ raised 0 ∷ raised 0 ∷ raised 2 ∷ raised 3 ∷ raised 3 ∷ []) ∷ (raised 9 ∷ raised 4 ∷ raised 4 ∷ raised 0 ∷ raised 0 ∷ raised 2 ∷ raised 0 ∷ raised 3600000 ∷ raised 2 ∷ raised 5 ∷ []) ∷ (raised 0 ∷ raised 4 ∷ raised 1 ∷ raised 0 ∷ raised 0 ∷ raised 0 ∷ raised 0 ∷ raised 0 ∷ raised 3 ∷ raised 1 ∷ []) ∷ []) ∷ []; bits = 3195106101 ∷ 3195563404 ∷ 1017820248 ∷ 3193517238 ∷ 3181836274 ∷ 1038637692 ∷ 1064183357 ∷ 3212647409 ∷ 3202753334 ∷ 1031958264 ∷ 1057673224 ∷ 1064417100 ∷ 1055519520 ∷ 1028451008 ∷ 3207089895 ∷ 1052882362 ∷ 1061315042 ∷ 1051392898 ∷ 3205991695 ∷ 3210468425 ∷ 1064070852 ∷ 3212717573 ∷ 1061865285 ∷ 3200821498 ∷ 3190015948 ∷ 3182425768 ∷ 1055374886 ∷ 1427248 ∷ 1061592486 ∷ 1058576477 ∷ 3181747728 ∷ 0 ∷ 1056526318 ∷ 1037591320 ∷ 3212347382 ∷ 3151781120 ∷ 3211248050 ∷ 3202711336 ∷ 3210274412 ∷ 3176115232 ∷ 1058067618 ∷ 1057656616 ∷ 1061872591 ∷ 3192332360 ∷ 3199963346 ∷ 3185065800 ∷ 1059902143 ∷ 1061791363 ∷ 1062757476 ∷ 1056964608 ∷ 1064893587 ∷ 3200614690 ∷ 3211719051 ∷ 3204653289 ∷ 3206068413 ∷ 3195302268 ∷ 1063810670 ∷ 1064233412 ∷ 3210996896 ∷ 1058462344 ∷ 3204000310 ∷ 1057103317 ∷ 3208184171 ∷ 3207894281 ∷ 1046237980 ∷ 3132941312 ∷ 3169077152 ∷ 3211389629 ∷ 2147483649 ∷ 1043473052 ∷ []; visiting = 3173252860 ∷ 1042065477 ∷ 3183988442 ∷ 3156526928 ∷ 1032425454 ∷ 1020200264 ∷ 3191215532 ∷ 1044492640 ∷ 1013351472 ∷ 1034043476 ∷ 1047113513 ∷ 1039129706 ∷ 1043041084 ∷ 3178256780 ∷ 1029142328 ∷ 2147483649 ∷ 3193584947 ∷ 2147483649 ∷ []; chosen = 0 ∷ [] };
      other = record { tables = ((raised 86089 ∷ raised 1 ∷ raised 5 ∷ raised 32 ∷ raised 12 ∷ raised 0 ∷ []) ∷ []) ∷ ([]) ∷ ((raised 0 ∷ raised_minus 1408 ∷ []) ∷ (raised 0 ∷ raised 1362 ∷ []) ∷ (raised 1 ∷ raised_minus 4006 ∷ []) ∷ (raised 1 ∷ raised_minus 1437 ∷ []) ∷ (raised 3 ∷ raised 2118 ∷ []) ∷ (raised 1 ∷ raised 176 ∷ []) ∷ (raised 5 ∷ raised_minus 5078 ∷ []) ∷ (raised 5 ∷ raised 184 ∷ []) ∷ (raised 4 ∷ raised_minus 1700 ∷ []) ∷ (raised 3 ∷ raised_minus 1326 ∷ []) ∷ (raised 5 ∷ raised_minus 1736 ∷ []) ∷ (raised 10 ∷ raised_minus 230 ∷ []) ∷ []) ∷ ((raised_minus 769 ∷ []) ∷ (raised 0 ∷ []) ∷ []) ∷ ((raised 2 ∷ raised 1 ∷ raised_minus 2097 ∷ []) ∷ (raised 11 ∷ raised 1 ∷ raised_minus 411 ∷ []) ∷ (raised 1 ∷ raised 1 ∷ raised_minus 543 ∷ []) ∷ (raised 10 ∷ raised 1 ∷ raised 176 ∷ []) ∷ []) ∷ ((raised 9 ∷ raised 5 ∷ raised 4 ∷ raised 1 ∷ []) ∷ (raised 0 ∷ raised 3 ∷ raised 32 ∷ raised 0 ∷ []) ∷ (raised 9 ∷ raised 1 ∷ raised 31 ∷ raised 0 ∷ []) ∷ (raised 9 ∷ raised 7 ∷ raised 2 ∷ raised 1 ∷ []) ∷ (raised 9 ∷ raised 8 ∷ raised 28 ∷ raised 0 ∷ []) ∷ (raised 9 ∷ raised 21 ∷ raised 15 ∷ raised 0 ∷ []) ∷ (raised 9 ∷ raised 9 ∷ raised 27 ∷ raised 0 ∷ []) ∷ (raised 9 ∷ raised 0 ∷ raised 8 ∷ raised 1 ∷ []) ∷ (raised 9 ∷ raised 0 ∷ raised 36 ∷ raised 0 ∷ []) ∷ []) ∷ ([]) ∷ ([]) ∷ ((raised 2 ∷ raised 5 ∷ raised 1 ∷ raised 0 ∷ raised 0 ∷ raised 0 ∷ raised 0 ∷ raised 2 ∷ raised 3 ∷ raised 3 ∷ []) ∷ (raised 0 ∷ raised 4 ∷ raised 1 ∷ raised 0 ∷ raised 0 ∷ raised 0 ∷ raised 0 ∷ raised 0 ∷ raised 3 ∷ raised 1 ∷ []) ∷ []) ∷ []; bits = 3204816866 ∷ 3202265040 ∷ 1049492010 ∷ 1045633592 ∷ 1 ∷ 1064328542 ∷ 1064183357 ∷ 3212647409 ∷ 3202753334 ∷ 1031958264 ∷ 1057673224 ∷ 1064417100 ∷ 1055519520 ∷ 1028451008 ∷ 3207089895 ∷ 1052882362 ∷ 1061315042 ∷ 1051392898 ∷ 3205991695 ∷ 3210468425 ∷ 1064070852 ∷ 3212717573 ∷ 1061865285 ∷ 3200821498 ∷ 3190015948 ∷ 3182425768 ∷ 1055374886 ∷ 1427248 ∷ 1061592486 ∷ 1058576477 ∷ 3181747728 ∷ 0 ∷ 1056526318 ∷ 1037591320 ∷ 3212347382 ∷ 3151781120 ∷ 3211248050 ∷ 3202711336 ∷ 3210274412 ∷ 3176115232 ∷ 1058067618 ∷ 1057656616 ∷ 1061872591 ∷ 3192332360 ∷ 3199963346 ∷ 3185065800 ∷ 1059902143 ∷ 1061791363 ∷ 1062757476 ∷ 1056964608 ∷ 1064893587 ∷ 3200614690 ∷ 3211719051 ∷ 3204653289 ∷ 3206068413 ∷ 3195302268 ∷ 1063810670 ∷ 1064233412 ∷ 3210996896 ∷ 1058462344 ∷ 3204000310 ∷ 1057103317 ∷ 3208184171 ∷ 3207894281 ∷ 1046237980 ∷ 3132941312 ∷ 3169077152 ∷ 3211389629 ∷ 2147483649 ∷ 1043473052 ∷ 3196699498 ∷ 2147483649 ∷ []; visiting = 1064052825 ∷ 1045635216 ∷ 0 ∷ 3204667814 ∷ 3211841457 ∷ 3205815327 ∷ 3211981943 ∷ 1046265636 ∷ 3203526096 ∷ 1037403008 ∷ 1060783607 ∷ 1052072228 ∷ 1427248 ∷ 3183714648 ∷ 3209538308 ∷ 3212157630 ∷ 3194822980 ∷ 3171510688 ∷ []; chosen = 0 ∷ [] };
    }

abbrev pub outside_frame : Pair
outside_frame =
    record {
      one = record { tables = ((raised 56343 ∷ raised 1 ∷ raised 7 ∷ raised 32 ∷ raised 12 ∷ raised 0 ∷ []) ∷ []) ∷ ((raised 0 ∷ raised 26426 ∷ raised 1 ∷ []) ∷ []) ∷ ((raised 0 ∷ raised_minus 5005 ∷ []) ∷ (raised 1 ∷ raised_minus 1672 ∷ []) ∷ (raised 2 ∷ raised 1799 ∷ []) ∷ (raised 2 ∷ raised 189 ∷ []) ∷ (raised 2 ∷ raised_minus 60000 ∷ []) ∷ (raised 0 ∷ raised_minus 1805 ∷ []) ∷ (raised 5 ∷ raised_minus 1170 ∷ []) ∷ (raised 5 ∷ raised_minus 3247 ∷ []) ∷ (raised 5 ∷ raised 1788 ∷ []) ∷ (raised 6 ∷ raised_minus 1115 ∷ []) ∷ []) ∷ ((raised_minus 1699 ∷ []) ∷ (raised 0 ∷ []) ∷ []) ∷ ((raised 3 ∷ raised 1 ∷ raised 740 ∷ []) ∷ []) ∷ ((raised 8 ∷ raised 0 ∷ raised 8 ∷ raised 1 ∷ []) ∷ (raised 8 ∷ raised 1 ∷ raised 8 ∷ raised 1 ∷ []) ∷ (raised 8 ∷ raised 0 ∷ raised 9 ∷ raised 1 ∷ []) ∷ (raised 8 ∷ raised 6 ∷ raised 3 ∷ raised 1 ∷ []) ∷ (raised 8 ∷ raised 0 ∷ raised 9 ∷ raised 1 ∷ []) ∷ (raised 8 ∷ raised 8 ∷ raised 1 ∷ raised 1 ∷ []) ∷ (raised 6 ∷ raised 3 ∷ raised 0 ∷ raised 0 ∷ []) ∷ (raised 8 ∷ raised 0 ∷ raised 8 ∷ raised 0 ∷ []) ∷ (raised 0 ∷ raised 3 ∷ raised 32 ∷ raised 0 ∷ []) ∷ (raised 8 ∷ raised 18 ∷ raised 18 ∷ raised 0 ∷ []) ∷ []) ∷ ([]) ∷ ([]) ∷ ((raised 8 ∷ raised 4 ∷ raised 9 ∷ raised 0 ∷ raised 0 ∷ raised 0 ∷ raised 0 ∷ raised 8 ∷ raised 3 ∷ raised 5 ∷ []) ∷ (raised 3 ∷ raised 4 ∷ raised 9 ∷ raised 0 ∷ raised 1 ∷ raised 1 ∷ raised 500 ∷ raised 3 ∷ raised 3 ∷ raised 4 ∷ []) ∷ (raised 7 ∷ raised 4 ∷ raised 7 ∷ raised 0 ∷ raised 1 ∷ raised 1 ∷ raised 1 ∷ raised 7 ∷ raised 2 ∷ raised 2 ∷ []) ∷ []) ∷ []; bits = 990454120 ∷ 3154581826 ∷ 3162709002 ∷ 1020221417 ∷ 1016377834 ∷ 3136616752 ∷ 1021232960 ∷ 3155620632 ∷ 3169157954 ∷ 3169171790 ∷ 1017417178 ∷ 1023220397 ∷ 1021888011 ∷ 1018136228 ∷ 3158844404 ∷ 3141124224 ∷ 3168149927 ∷ 3154224798 ∷ 1012329500 ∷ 1019627248 ∷ 3196059648 ∷ 3167860661 ∷ 1020250792 ∷ 1021601693 ∷ 1017426449 ∷ 3158218050 ∷ 1008769350 ∷ 1007822864 ∷ 1008834926 ∷ 994719056 ∷ 3169054263 ∷ 916209664 ∷ 3134373248 ∷ 1427248 ∷ 1009837478 ∷ 1002148132 ∷ 3166023626 ∷ 3145825544 ∷ 1020705798 ∷ 1014812392 ∷ 3148079876 ∷ 3170542276 ∷ 3144440616 ∷ 1022326302 ∷ 1022070354 ∷ 1015878484 ∷ 991836784 ∷ 1427248 ∷ 1015840452 ∷ 1017918161 ∷ 1 ∷ 3167071283 ∷ 0 ∷ 3114800448 ∷ 2147483649 ∷ 3163426131 ∷ 1009897534 ∷ 3146528316 ∷ 3166786150 ∷ 3152697448 ∷ 1002089140 ∷ 1018674090 ∷ 1023118917 ∷ 1015837357 ∷ 3168189270 ∷ 3138621800 ∷ 3165412025 ∷ 3168832609 ∷ 3133433216 ∷ 1021993286 ∷ 1016225372 ∷ 3136686800 ∷ []; visiting = 1048291985 ∷ 1044373506 ∷ 3192369638 ∷ 1034040116 ∷ 1 ∷ 3185506046 ∷ 1043903010 ∷ 1034399554 ∷ 3189072951 ∷ 1040275786 ∷ 1043520260 ∷ 3187446850 ∷ 3196059648 ∷ 1 ∷ 3178356912 ∷ 3189045112 ∷ 1047488849 ∷ 3183026976 ∷ []; chosen = 4 ∷ [] };
      other = record { tables = ((raised 56343 ∷ raised 1 ∷ raised 7 ∷ raised 32 ∷ raised 12 ∷ raised 0 ∷ []) ∷ []) ∷ ((raised 0 ∷ raised 26426 ∷ raised 1 ∷ []) ∷ []) ∷ ((raised 0 ∷ raised_minus 5005 ∷ []) ∷ (raised 1 ∷ raised_minus 1672 ∷ []) ∷ (raised 2 ∷ raised 1799 ∷ []) ∷ (raised 2 ∷ raised 189 ∷ []) ∷ (raised 2 ∷ raised_minus 60000 ∷ []) ∷ (raised 5 ∷ raised_minus 1741 ∷ []) ∷ (raised 0 ∷ raised_minus 1805 ∷ []) ∷ (raised 7 ∷ raised_minus 1115 ∷ []) ∷ (raised 5 ∷ raised 457 ∷ []) ∷ (raised 5 ∷ raised_minus 4754 ∷ []) ∷ []) ∷ ((raised_minus 1699 ∷ []) ∷ (raised 0 ∷ []) ∷ []) ∷ ((raised 3 ∷ raised 1 ∷ raised 740 ∷ []) ∷ []) ∷ ((raised 7 ∷ raised 3 ∷ raised 0 ∷ raised 0 ∷ []) ∷ (raised 9 ∷ raised 1 ∷ raised 8 ∷ raised 1 ∷ []) ∷ (raised 9 ∷ raised 0 ∷ raised 35 ∷ raised 0 ∷ []) ∷ (raised 9 ∷ raised 0 ∷ raised 8 ∷ raised 0 ∷ []) ∷ (raised 9 ∷ raised 33 ∷ raised 2 ∷ raised 0 ∷ []) ∷ (raised 9 ∷ raised 2 ∷ raised 7 ∷ raised 1 ∷ []) ∷ (raised 9 ∷ raised 5 ∷ raised 4 ∷ raised 1 ∷ []) ∷ (raised 9 ∷ raised 0 ∷ raised 8 ∷ raised 0 ∷ []) ∷ (raised 0 ∷ raised 3 ∷ raised 32 ∷ raised 0 ∷ []) ∷ (raised 9 ∷ raised 12 ∷ raised 8 ∷ raised 0 ∷ []) ∷ []) ∷ ([]) ∷ ([]) ∷ ((raised 1 ∷ raised 1 ∷ raised 6 ∷ raised_minus 4622 ∷ raised 0 ∷ raised 0 ∷ raised 0 ∷ raised 3600000 ∷ raised 2 ∷ raised 2 ∷ []) ∷ (raised 7 ∷ raised 4 ∷ raised 10 ∷ raised 0 ∷ raised 1 ∷ raised 1 ∷ raised 947 ∷ raised 7 ∷ raised 3 ∷ raised 4 ∷ []) ∷ []) ∷ []; bits = 1025996176 ∷ 1 ∷ 1048035192 ∷ 3197239212 ∷ 1060790941 ∷ 2147483649 ∷ 1056964608 ∷ 3155620632 ∷ 3169157954 ∷ 3169171790 ∷ 1017417178 ∷ 1023220397 ∷ 1021888011 ∷ 1018136228 ∷ 3158844404 ∷ 3141124224 ∷ 3168149927 ∷ 3154224798 ∷ 1012329500 ∷ 1019627248 ∷ 3196059648 ∷ 3167860661 ∷ 1020250792 ∷ 1021601693 ∷ 1017426449 ∷ 3158218050 ∷ 1008769350 ∷ 1007822864 ∷ 1008834926 ∷ 994719056 ∷ 3169054263 ∷ 916209664 ∷ 3134373248 ∷ 1427248 ∷ 1009837478 ∷ 1002148132 ∷ 3166023626 ∷ 3145825544 ∷ 1020705798 ∷ 1014812392 ∷ 3148079876 ∷ 3170542276 ∷ 3144440616 ∷ 1022326302 ∷ 1022070354 ∷ 1015878484 ∷ 991836784 ∷ 1427248 ∷ 1015840452 ∷ 1017918161 ∷ 1 ∷ 3167071283 ∷ 0 ∷ 3114800448 ∷ 2147483649 ∷ 3163426131 ∷ 1009897534 ∷ 3146528316 ∷ 3166786150 ∷ 3152697448 ∷ 1002089140 ∷ 1018674090 ∷ 1023118917 ∷ 1015837357 ∷ 3168189270 ∷ 3138621800 ∷ 3165412025 ∷ 3168832609 ∷ 3133433216 ∷ 1021993286 ∷ []; visiting = 3119798824 ∷ 3212836864 ∷ 972891312 ∷ 3144041637 ∷ 3196059648 ∷ 993906805 ∷ 3141901147 ∷ 3141567648 ∷ 985604564 ∷ 1427248 ∷ 997850001 ∷ 983010324 ∷ 995289941 ∷ 992900957 ∷ 3137778905 ∷ 940203648 ∷ 991724015 ∷ 986913148 ∷ []; chosen = 4 ∷ [] };
    }

abbrev pub outside_origin : Pair
outside_origin =
    record {
      one = record { tables = ((raised 56343 ∷ raised 1 ∷ raised 7 ∷ raised 32 ∷ raised 12 ∷ raised 0 ∷ []) ∷ []) ∷ ((raised 0 ∷ raised 26426 ∷ raised 1 ∷ []) ∷ []) ∷ ((raised 0 ∷ raised_minus 5005 ∷ []) ∷ (raised 1 ∷ raised_minus 1672 ∷ []) ∷ (raised 2 ∷ raised 1799 ∷ []) ∷ (raised 2 ∷ raised 189 ∷ []) ∷ (raised 2 ∷ raised_minus 60000 ∷ []) ∷ (raised 0 ∷ raised_minus 1805 ∷ []) ∷ (raised 5 ∷ raised_minus 1170 ∷ []) ∷ (raised 5 ∷ raised_minus 3247 ∷ []) ∷ (raised 5 ∷ raised 1788 ∷ []) ∷ (raised 6 ∷ raised_minus 1115 ∷ []) ∷ []) ∷ ((raised_minus 1699 ∷ []) ∷ (raised 0 ∷ []) ∷ []) ∷ ((raised 3 ∷ raised 1 ∷ raised 740 ∷ []) ∷ []) ∷ ((raised 8 ∷ raised 0 ∷ raised 8 ∷ raised 1 ∷ []) ∷ (raised 8 ∷ raised 1 ∷ raised 8 ∷ raised 1 ∷ []) ∷ (raised 8 ∷ raised 0 ∷ raised 9 ∷ raised 1 ∷ []) ∷ (raised 8 ∷ raised 6 ∷ raised 3 ∷ raised 1 ∷ []) ∷ (raised 8 ∷ raised 0 ∷ raised 9 ∷ raised 1 ∷ []) ∷ (raised 8 ∷ raised 8 ∷ raised 1 ∷ raised 1 ∷ []) ∷ (raised 6 ∷ raised 3 ∷ raised 0 ∷ raised 0 ∷ []) ∷ (raised 8 ∷ raised 0 ∷ raised 8 ∷ raised 0 ∷ []) ∷ (raised 0 ∷ raised 3 ∷ raised 32 ∷ raised 0 ∷ []) ∷ (raised 8 ∷ raised 18 ∷ raised 18 ∷ raised 0 ∷ []) ∷ []) ∷ ([]) ∷ ([]) ∷ ((raised 8 ∷ raised 4 ∷ raised 9 ∷ raised 0 ∷ raised 0 ∷ raised 0 ∷ raised 0 ∷ raised 8 ∷ raised 3 ∷ raised 5 ∷ []) ∷ (raised 3 ∷ raised 4 ∷ raised 9 ∷ raised 0 ∷ raised 1 ∷ raised 1 ∷ raised 500 ∷ raised 3 ∷ raised 3 ∷ raised 4 ∷ []) ∷ (raised 7 ∷ raised 4 ∷ raised 7 ∷ raised 0 ∷ raised 1 ∷ raised 1 ∷ raised 1 ∷ raised 7 ∷ raised 2 ∷ raised 2 ∷ []) ∷ []) ∷ []; bits = 990454120 ∷ 3154581826 ∷ 3162709002 ∷ 1020221417 ∷ 1016377834 ∷ 3136616752 ∷ 1021232960 ∷ 3155620632 ∷ 3169157954 ∷ 3169171790 ∷ 1017417178 ∷ 1023220397 ∷ 1021888011 ∷ 1018136228 ∷ 3158844404 ∷ 3141124224 ∷ 3168149927 ∷ 3154224798 ∷ 1012329500 ∷ 1019627248 ∷ 3196059648 ∷ 3167860661 ∷ 1020250792 ∷ 1021601693 ∷ 1017426449 ∷ 3158218050 ∷ 1008769350 ∷ 1007822864 ∷ 1008834926 ∷ 994719056 ∷ 3169054263 ∷ 916209664 ∷ 3134373248 ∷ 1427248 ∷ 1009837478 ∷ 1002148132 ∷ 3166023626 ∷ 3145825544 ∷ 1020705798 ∷ 1014812392 ∷ 3148079876 ∷ 3170542276 ∷ 3144440616 ∷ 1022326302 ∷ 1022070354 ∷ 1015878484 ∷ 991836784 ∷ 1427248 ∷ 1015840452 ∷ 1017918161 ∷ 1 ∷ 3167071283 ∷ 0 ∷ 3114800448 ∷ 2147483649 ∷ 3163426131 ∷ 1009897534 ∷ 3146528316 ∷ 3166786150 ∷ 3152697448 ∷ 1002089140 ∷ 1018674090 ∷ 1023118917 ∷ 1015837357 ∷ 3168189270 ∷ 3138621800 ∷ 3165412025 ∷ 3168832609 ∷ 3133433216 ∷ 1021993286 ∷ 1016225372 ∷ 3136686800 ∷ []; visiting = 1048291985 ∷ 1044373506 ∷ 3192369638 ∷ 1034040116 ∷ 1 ∷ 3185506046 ∷ 1043903010 ∷ 1034399554 ∷ 3189072951 ∷ 1040275786 ∷ 1043520260 ∷ 3187446850 ∷ 3196059648 ∷ 1 ∷ 3178356912 ∷ 3189045112 ∷ 1047488849 ∷ 3183026976 ∷ []; chosen = 4 ∷ [] };
      other = record { tables = ((raised 56343 ∷ raised 1 ∷ raised 7 ∷ raised 32 ∷ raised 12 ∷ raised 0 ∷ []) ∷ []) ∷ ((raised 0 ∷ raised 26426 ∷ raised 1 ∷ []) ∷ []) ∷ ((raised 0 ∷ raised_minus 5005 ∷ []) ∷ (raised 1 ∷ raised_minus 1672 ∷ []) ∷ (raised 2 ∷ raised 1799 ∷ []) ∷ (raised 2 ∷ raised 189 ∷ []) ∷ (raised 2 ∷ raised_minus 60000 ∷ []) ∷ (raised 5 ∷ raised_minus 1741 ∷ []) ∷ (raised 0 ∷ raised_minus 1805 ∷ []) ∷ (raised 7 ∷ raised_minus 1115 ∷ []) ∷ (raised 5 ∷ raised 457 ∷ []) ∷ (raised 5 ∷ raised_minus 4754 ∷ []) ∷ []) ∷ ((raised_minus 1699 ∷ []) ∷ (raised 0 ∷ []) ∷ []) ∷ ((raised 3 ∷ raised 1 ∷ raised 740 ∷ []) ∷ []) ∷ ((raised 7 ∷ raised 3 ∷ raised 0 ∷ raised 0 ∷ []) ∷ (raised 9 ∷ raised 1 ∷ raised 8 ∷ raised 1 ∷ []) ∷ (raised 9 ∷ raised 0 ∷ raised 35 ∷ raised 0 ∷ []) ∷ (raised 9 ∷ raised 0 ∷ raised 8 ∷ raised 0 ∷ []) ∷ (raised 9 ∷ raised 33 ∷ raised 2 ∷ raised 0 ∷ []) ∷ (raised 9 ∷ raised 2 ∷ raised 7 ∷ raised 1 ∷ []) ∷ (raised 9 ∷ raised 5 ∷ raised 4 ∷ raised 1 ∷ []) ∷ (raised 9 ∷ raised 0 ∷ raised 8 ∷ raised 0 ∷ []) ∷ (raised 0 ∷ raised 9 ∷ raised 32 ∷ raised 1 ∷ []) ∷ (raised 9 ∷ raised 12 ∷ raised 8 ∷ raised 0 ∷ []) ∷ []) ∷ ([]) ∷ ([]) ∷ ((raised 1 ∷ raised 1 ∷ raised 6 ∷ raised_minus 4622 ∷ raised 0 ∷ raised 0 ∷ raised 0 ∷ raised 3600000 ∷ raised 2 ∷ raised 2 ∷ []) ∷ (raised 7 ∷ raised 4 ∷ raised 10 ∷ raised 0 ∷ raised 1 ∷ raised 1 ∷ raised 947 ∷ raised 7 ∷ raised 3 ∷ raised 4 ∷ []) ∷ []) ∷ []; bits = 1025996176 ∷ 1 ∷ 1048035192 ∷ 3197239212 ∷ 1060790941 ∷ 2147483649 ∷ 1021232960 ∷ 3155620632 ∷ 3169157954 ∷ 3169171790 ∷ 1017417178 ∷ 1023220397 ∷ 1021888011 ∷ 1018136228 ∷ 3158844404 ∷ 3141124224 ∷ 3168149927 ∷ 3154224798 ∷ 1012329500 ∷ 1019627248 ∷ 3196059648 ∷ 3167860661 ∷ 1020250792 ∷ 1021601693 ∷ 1017426449 ∷ 3158218050 ∷ 1008769350 ∷ 1007822864 ∷ 1008834926 ∷ 994719056 ∷ 3169054263 ∷ 916209664 ∷ 3134373248 ∷ 1427248 ∷ 1009837478 ∷ 1002148132 ∷ 3166023626 ∷ 3145825544 ∷ 1020705798 ∷ 1014812392 ∷ 3148079876 ∷ 3170542276 ∷ 3144440616 ∷ 1022326302 ∷ 1022070354 ∷ 1015878484 ∷ 991836784 ∷ 1427248 ∷ 1015840452 ∷ 1017918161 ∷ 1 ∷ 3167071283 ∷ 0 ∷ 3114800448 ∷ 2147483649 ∷ 3163426131 ∷ 1009897534 ∷ 3146528316 ∷ 3166786150 ∷ 3152697448 ∷ 1002089140 ∷ 1018674090 ∷ 1023118917 ∷ 1015837357 ∷ 3168189270 ∷ 3138621800 ∷ 3165412025 ∷ 3168832609 ∷ 3133433216 ∷ 1021993286 ∷ []; visiting = 3119798824 ∷ 3212836864 ∷ 972891312 ∷ 3144041637 ∷ 3196059648 ∷ 993906805 ∷ 3141901147 ∷ 3141567648 ∷ 985604564 ∷ 1427248 ∷ 997850001 ∷ 983010324 ∷ 995289941 ∷ 992900957 ∷ 3137778905 ∷ 940203648 ∷ 991724015 ∷ 986913148 ∷ 1056964608 ∷ 3155620632 ∷ 3169157954 ∷ 3169171790 ∷ 1017417178 ∷ 1023220397 ∷ 1021888011 ∷ 1018136228 ∷ 3158844404 ∷ 3141124224 ∷ 3168149927 ∷ 3154224798 ∷ 1012329500 ∷ 1019627248 ∷ 3196059648 ∷ 3167860661 ∷ 1020250792 ∷ 1021601693 ∷ 1017426449 ∷ 3158218050 ∷ 1008769350 ∷ 1007822864 ∷ 1008834926 ∷ 994719056 ∷ 3169054263 ∷ 916209664 ∷ 3134373248 ∷ 1427248 ∷ 1009837478 ∷ 1002148132 ∷ 3166023626 ∷ 3145825544 ∷ 1020705798 ∷ 1014812392 ∷ 3148079876 ∷ 3170542276 ∷ 3144440616 ∷ 1022326302 ∷ 1022070354 ∷ 1015878484 ∷ 991836784 ∷ 1427248 ∷ 1015840452 ∷ 1017918161 ∷ 1 ∷ 3167071283 ∷ 0 ∷ 3114800448 ∷ 2147483649 ∷ 3163426131 ∷ 1009897534 ∷ 3146528316 ∷ 3166786150 ∷ 3152697448 ∷ 1002089140 ∷ 1018674090 ∷ 1023118917 ∷ 1015837357 ∷ 3168189270 ∷ 3138621800 ∷ 3165412025 ∷ 3168832609 ∷ 3133433216 ∷ 1021993286 ∷ []; chosen = 4 ∷ [] };
    }

abbrev pub outside_pose : Pair
outside_pose =
    record {
      one = record { tables = ((raised 29538 ∷ raised 3 ∷ raised 11 ∷ raised 32 ∷ raised 12 ∷ raised 0 ∷ []) ∷ []) ∷ ([]) ∷ ((raised 0 ∷ raised_minus 4967 ∷ []) ∷ (raised 1 ∷ raised 805 ∷ []) ∷ (raised 0 ∷ raised 0 ∷ []) ∷ []) ∷ ((raised_minus 5518 ∷ []) ∷ (raised 1852 ∷ []) ∷ (raised 0 ∷ []) ∷ []) ∷ ((raised 1 ∷ raised 2 ∷ raised_minus 4718 ∷ []) ∷ (raised 1 ∷ raised 1 ∷ raised_minus 856 ∷ []) ∷ []) ∷ ((raised 2 ∷ raised 0 ∷ raised 8 ∷ raised 1 ∷ []) ∷ (raised 0 ∷ raised 0 ∷ raised 0 ∷ raised 1 ∷ []) ∷ (raised 2 ∷ raised 6 ∷ raised 3 ∷ raised 1 ∷ []) ∷ (raised 2 ∷ raised 7 ∷ raised 2 ∷ raised 1 ∷ []) ∷ (raised 0 ∷ raised 0 ∷ raised 32 ∷ raised 0 ∷ []) ∷ (raised 2 ∷ raised 0 ∷ raised 9 ∷ raised 1 ∷ []) ∷ (raised 3 ∷ raised 0 ∷ raised 32 ∷ raised 0 ∷ []) ∷ (raised 2 ∷ raised 3 ∷ raised 6 ∷ raised 1 ∷ []) ∷ (raised 2 ∷ raised 2 ∷ raised 7 ∷ raised 1 ∷ []) ∷ (raised 2 ∷ raised 4 ∷ raised 5 ∷ raised 1 ∷ []) ∷ (raised 2 ∷ raised 0 ∷ raised 9 ∷ raised 1 ∷ []) ∷ []) ∷ ((raised 24875 ∷ raised_minus 55750 ∷ raised_minus 84125 ∷ []) ∷ []) ∷ ((raised 3 ∷ raised 27875 ∷ raised_minus 51750 ∷ raised_minus 84125 ∷ raised 424 ∷ raised 15657 ∷ []) ∷ []) ∷ ((raised 6 ∷ raised 5 ∷ raised 2 ∷ raised 0 ∷ raised 0 ∷ raised 0 ∷ raised 0 ∷ raised 6 ∷ raised 0 ∷ raised 0 ∷ []) ∷ (raised 0 ∷ raised 4 ∷ raised 1 ∷ raised 0 ∷ raised 0 ∷ raised 0 ∷ raised 0 ∷ raised 0 ∷ raised 1 ∷ raised 4 ∷ []) ∷ (raised 1 ∷ raised 5 ∷ raised 2 ∷ raised 0 ∷ raised 0 ∷ raised 0 ∷ raised 0 ∷ raised 1 ∷ raised 0 ∷ raised 0 ∷ []) ∷ (raised 7 ∷ raised 1 ∷ raised 2 ∷ raised_minus 4517 ∷ raised 0 ∷ raised 1 ∷ raised 0 ∷ raised 22 ∷ raised 1 ∷ raised 5 ∷ []) ∷ []) ∷ []; bits = 980696916 ∷ 3134985376 ∷ 3135954260 ∷ 994119477 ∷ 996526402 ∷ 997989268 ∷ 983917492 ∷ 994411202 ∷ 996424548 ∷ 997026327 ∷ 2147483648 ∷ 3140841231 ∷ 990515880 ∷ 994179959 ∷ 3136125428 ∷ 990685760 ∷ 993377171 ∷ 3139567274 ∷ 3124622384 ∷ 3141621166 ∷ 3142341692 ∷ 3129010690 ∷ 3128325720 ∷ 3136919564 ∷ 1056964608 ∷ 3140206591 ∷ 3129933474 ∷ 991877030 ∷ 985629972 ∷ 3143874295 ∷ 3142080973 ∷ 3144618862 ∷ 3143213650 ∷ 3142027934 ∷ 997106309 ∷ 3109623680 ∷ 997193343 ∷ 953421504 ∷ 3128353424 ∷ 3098995712 ∷ 981017860 ∷ 2147483649 ∷ 954959968 ∷ 982084352 ∷ 3134635472 ∷ 991261922 ∷ 3130771078 ∷ 995494291 ∷ 2147483648 ∷ 3136055892 ∷ 3104232320 ∷ 966772408 ∷ 3118934000 ∷ 992783318 ∷ 992319951 ∷ 3143983684 ∷ 982027006 ∷ 3142439870 ∷ 3141977488 ∷ 3126402044 ∷ 3129683336 ∷ 996034545 ∷ 3137517402 ∷ 989634922 ∷ 1016467744 ∷ 1021814520 ∷ 3190952802 ∷ 3185265392 ∷ 1036756892 ∷ 3196059648 ∷ 3183078692 ∷ 1022594200 ∷ 1044872221 ∷ 1038448512 ∷ 3195199886 ∷ 3176373080 ∷ 3175058024 ∷ 3191354875 ∷ 1042311922 ∷ 1022642184 ∷ 1046665182 ∷ 3180827190 ∷ 1041328111 ∷ 1044874082 ∷ 3191400173 ∷ 1046477943 ∷ 1032456452 ∷ 1036945096 ∷ 1037407600 ∷ 1044920744 ∷ 1041976093 ∷ 3166788848 ∷ 3174701048 ∷ 3183365560 ∷ 1042231058 ∷ 1042677509 ∷ 3196059648 ∷ 3188726709 ∷ 3193436737 ∷ 1046117729 ∷ 3189652834 ∷ 1042470412 ∷ 3189933253 ∷ 1033060438 ∷ 3195461359 ∷ 3194639344 ∷ 3152677344 ∷ 1032063232 ∷ 3188471062 ∷ 1043551974 ∷ 3175070076 ∷ 1045905024 ∷ 1043547163 ∷ 3176973648 ∷ 3177510428 ∷ 1 ∷ 1047005591 ∷ 1046449573 ∷ 1024447856 ∷ 1044685045 ∷ 1041643588 ∷ 1038897768 ∷ 1042672061 ∷ 1045318403 ∷ 1044202407 ∷ 3162253024 ∷ 1047018486 ∷ 1023871064 ∷ 1011622528 ∷ 2147483648 ∷ 1031347892 ∷ 1033924990 ∷ 3175202668 ∷ 3180464560 ∷ 3184120106 ∷ 3188772307 ∷ 1047891965 ∷ 3187192472 ∷ 1065353216 ∷ 1041323642 ∷ 3190453889 ∷ 3160625328 ∷ []; visiting = 1042918721 ∷ 3187973173 ∷ 1037791812 ∷ 1043398858 ∷ 3192668687 ∷ 1045197009 ∷ 1025246260 ∷ 3178401964 ∷ 3195840344 ∷ 1025505084 ∷ 3194524221 ∷ 3212836864 ∷ 3158726096 ∷ 1032670394 ∷ 1045501989 ∷ 1042075673 ∷ 1042732632 ∷ 3168880312 ∷ []; chosen = 0 ∷ [] };
      other = record { tables = ((raised 29538 ∷ raised 3 ∷ raised 11 ∷ raised 32 ∷ raised 12 ∷ raised 0 ∷ []) ∷ []) ∷ ([]) ∷ ((raised 0 ∷ raised_minus 4967 ∷ []) ∷ (raised 1 ∷ raised 202 ∷ []) ∷ (raised 0 ∷ raised 0 ∷ []) ∷ []) ∷ ((raised_minus 5518 ∷ []) ∷ (raised 1852 ∷ []) ∷ (raised 0 ∷ []) ∷ []) ∷ ((raised 1 ∷ raised 2 ∷ raised_minus 4718 ∷ []) ∷ (raised 1 ∷ raised 1 ∷ raised_minus 856 ∷ []) ∷ []) ∷ ((raised 2 ∷ raised 0 ∷ raised 8 ∷ raised 0 ∷ []) ∷ (raised 0 ∷ raised 0 ∷ raised 0 ∷ raised 1 ∷ []) ∷ (raised 0 ∷ raised 0 ∷ raised 32 ∷ raised 0 ∷ []) ∷ (raised 2 ∷ raised 3 ∷ raised 8 ∷ raised 0 ∷ []) ∷ (raised 2 ∷ raised 0 ∷ raised 32 ∷ raised 0 ∷ []) ∷ (raised 2 ∷ raised 2 ∷ raised 6 ∷ raised 1 ∷ []) ∷ (raised 2 ∷ raised 0 ∷ raised 32 ∷ raised 0 ∷ []) ∷ (raised 2 ∷ raised 0 ∷ raised 8 ∷ raised 1 ∷ []) ∷ (raised 2 ∷ raised 0 ∷ raised 8 ∷ raised 1 ∷ []) ∷ (raised 2 ∷ raised 2 ∷ raised 6 ∷ raised 1 ∷ []) ∷ (raised 3 ∷ raised 0 ∷ raised 32 ∷ raised 0 ∷ []) ∷ []) ∷ ((raised 24875 ∷ raised_minus 55750 ∷ raised_minus 84125 ∷ []) ∷ []) ∷ ((raised 3 ∷ raised 27875 ∷ raised_minus 51750 ∷ raised_minus 84025 ∷ raised 424 ∷ raised 15657 ∷ []) ∷ []) ∷ ((raised 10 ∷ raised 4 ∷ raised 2 ∷ raised 0 ∷ raised 0 ∷ raised 4 ∷ raised 0 ∷ raised 3600000 ∷ raised 0 ∷ raised 0 ∷ []) ∷ (raised 1 ∷ raised 1 ∷ raised 2 ∷ raised_minus 1950 ∷ raised 0 ∷ raised 0 ∷ raised 0 ∷ raised 2 ∷ raised 2 ∷ raised 1 ∷ []) ∷ (raised 5 ∷ raised 5 ∷ raised 2 ∷ raised 0 ∷ raised 0 ∷ raised 0 ∷ raised 0 ∷ raised 0 ∷ raised 2 ∷ raised 4 ∷ []) ∷ (raised 8 ∷ raised 4 ∷ raised 2 ∷ raised 0 ∷ raised 0 ∷ raised 0 ∷ raised 0 ∷ raised 3600000 ∷ raised 1 ∷ raised 1 ∷ []) ∷ (raised 0 ∷ raised 4 ∷ raised 1 ∷ raised 0 ∷ raised 0 ∷ raised 0 ∷ raised 0 ∷ raised 0 ∷ raised 1 ∷ raised 4 ∷ []) ∷ []) ∷ []; bits = 980696916 ∷ 3134985376 ∷ 3135954260 ∷ 994119477 ∷ 996526402 ∷ 997989268 ∷ 983917492 ∷ 994411202 ∷ 996424548 ∷ 997026327 ∷ 2147483648 ∷ 3140841231 ∷ 990515880 ∷ 994179959 ∷ 3136125428 ∷ 990685760 ∷ 993377171 ∷ 3139567274 ∷ 3124622384 ∷ 3141621166 ∷ 3142341692 ∷ 3129010690 ∷ 3128325720 ∷ 3136919564 ∷ 1056964608 ∷ 3140206591 ∷ 3129933474 ∷ 991877030 ∷ 985629972 ∷ 3143874295 ∷ 3142080973 ∷ 3144618862 ∷ 3143213650 ∷ 3142027934 ∷ 997106309 ∷ 3109623680 ∷ 997193343 ∷ 953421504 ∷ 3128353424 ∷ 3098995712 ∷ 981017860 ∷ 2147483649 ∷ 954959968 ∷ 982084352 ∷ 3134635472 ∷ 991261922 ∷ 3130771078 ∷ 995494291 ∷ 2147483648 ∷ 3136055892 ∷ 3104232320 ∷ 966772408 ∷ 3118934000 ∷ 992783318 ∷ 992319951 ∷ 3143983684 ∷ 982027006 ∷ 3142439870 ∷ 3141977488 ∷ 3126402044 ∷ 3129683336 ∷ 996034545 ∷ 3137517402 ∷ 989634922 ∷ []; visiting = 3140681233 ∷ 988290454 ∷ 3143575631 ∷ 981981520 ∷ 3139802404 ∷ 3113740912 ∷ 3143686406 ∷ 3138851152 ∷ 3133355974 ∷ 3129149978 ∷ 995383858 ∷ 998222490 ∷ 3139415776 ∷ 3145704875 ∷ 2147483648 ∷ 991508785 ∷ []; chosen = 0 ∷ [] };
    }

abbrev pub outside_placing : Pair
outside_placing =
    record {
      one = record { tables = ((raised 29538 ∷ raised 3 ∷ raised 11 ∷ raised 32 ∷ raised 12 ∷ raised 0 ∷ []) ∷ []) ∷ ([]) ∷ ((raised 0 ∷ raised_minus 4967 ∷ []) ∷ (raised 1 ∷ raised 805 ∷ []) ∷ (raised 0 ∷ raised 0 ∷ []) ∷ []) ∷ ((raised_minus 5518 ∷ []) ∷ (raised 1852 ∷ []) ∷ (raised 0 ∷ []) ∷ []) ∷ ((raised 1 ∷ raised 2 ∷ raised_minus 4718 ∷ []) ∷ (raised 1 ∷ raised 1 ∷ raised_minus 856 ∷ []) ∷ []) ∷ ((raised 2 ∷ raised 0 ∷ raised 8 ∷ raised 1 ∷ []) ∷ (raised 0 ∷ raised 0 ∷ raised 0 ∷ raised 1 ∷ []) ∷ (raised 2 ∷ raised 6 ∷ raised 3 ∷ raised 1 ∷ []) ∷ (raised 2 ∷ raised 7 ∷ raised 2 ∷ raised 1 ∷ []) ∷ (raised 0 ∷ raised 0 ∷ raised 32 ∷ raised 0 ∷ []) ∷ (raised 2 ∷ raised 0 ∷ raised 9 ∷ raised 1 ∷ []) ∷ (raised 3 ∷ raised 0 ∷ raised 32 ∷ raised 0 ∷ []) ∷ (raised 2 ∷ raised 3 ∷ raised 6 ∷ raised 1 ∷ []) ∷ (raised 2 ∷ raised 2 ∷ raised 7 ∷ raised 1 ∷ []) ∷ (raised 2 ∷ raised 4 ∷ raised 5 ∷ raised 1 ∷ []) ∷ (raised 2 ∷ raised 0 ∷ raised 9 ∷ raised 1 ∷ []) ∷ []) ∷ ((raised 24875 ∷ raised_minus 55750 ∷ raised_minus 84125 ∷ []) ∷ []) ∷ ((raised 3 ∷ raised 27875 ∷ raised_minus 51750 ∷ raised_minus 84125 ∷ raised 424 ∷ raised 15657 ∷ []) ∷ []) ∷ ((raised 6 ∷ raised 5 ∷ raised 2 ∷ raised 0 ∷ raised 0 ∷ raised 0 ∷ raised 0 ∷ raised 6 ∷ raised 0 ∷ raised 0 ∷ []) ∷ (raised 0 ∷ raised 4 ∷ raised 1 ∷ raised 0 ∷ raised 0 ∷ raised 0 ∷ raised 0 ∷ raised 0 ∷ raised 1 ∷ raised 4 ∷ []) ∷ (raised 1 ∷ raised 5 ∷ raised 2 ∷ raised 0 ∷ raised 0 ∷ raised 0 ∷ raised 0 ∷ raised 1 ∷ raised 0 ∷ raised 0 ∷ []) ∷ (raised 7 ∷ raised 1 ∷ raised 2 ∷ raised_minus 4517 ∷ raised 0 ∷ raised 1 ∷ raised 0 ∷ raised 22 ∷ raised 1 ∷ raised 5 ∷ []) ∷ []) ∷ []; bits = 980696916 ∷ 3134985376 ∷ 3135954260 ∷ 994119477 ∷ 996526402 ∷ 997989268 ∷ 983917492 ∷ 994411202 ∷ 996424548 ∷ 997026327 ∷ 2147483648 ∷ 3140841231 ∷ 990515880 ∷ 994179959 ∷ 3136125428 ∷ 990685760 ∷ 993377171 ∷ 3139567274 ∷ 3124622384 ∷ 3141621166 ∷ 3142341692 ∷ 3129010690 ∷ 3128325720 ∷ 3136919564 ∷ 1056964608 ∷ 3140206591 ∷ 3129933474 ∷ 991877030 ∷ 985629972 ∷ 3143874295 ∷ 3142080973 ∷ 3144618862 ∷ 3143213650 ∷ 3142027934 ∷ 997106309 ∷ 3109623680 ∷ 997193343 ∷ 953421504 ∷ 3128353424 ∷ 3098995712 ∷ 981017860 ∷ 2147483649 ∷ 954959968 ∷ 982084352 ∷ 3134635472 ∷ 991261922 ∷ 3130771078 ∷ 995494291 ∷ 2147483648 ∷ 3136055892 ∷ 3104232320 ∷ 966772408 ∷ 3118934000 ∷ 992783318 ∷ 992319951 ∷ 3143983684 ∷ 982027006 ∷ 3142439870 ∷ 3141977488 ∷ 3126402044 ∷ 3129683336 ∷ 996034545 ∷ 3137517402 ∷ 989634922 ∷ 1016467744 ∷ 1021814520 ∷ 3190952802 ∷ 3185265392 ∷ 1036756892 ∷ 3196059648 ∷ 3183078692 ∷ 1022594200 ∷ 1044872221 ∷ 1038448512 ∷ 3195199886 ∷ 3176373080 ∷ 3175058024 ∷ 3191354875 ∷ 1042311922 ∷ 1022642184 ∷ 1046665182 ∷ 3180827190 ∷ 1041328111 ∷ 1044874082 ∷ 3191400173 ∷ 1046477943 ∷ 1032456452 ∷ 1036945096 ∷ 1037407600 ∷ 1044920744 ∷ 1041976093 ∷ 3166788848 ∷ 3174701048 ∷ 3183365560 ∷ 1042231058 ∷ 1042677509 ∷ 3196059648 ∷ 3188726709 ∷ 3193436737 ∷ 1046117729 ∷ 3189652834 ∷ 1042470412 ∷ 3189933253 ∷ 1033060438 ∷ 3195461359 ∷ 3194639344 ∷ 3152677344 ∷ 1032063232 ∷ 3188471062 ∷ 1043551974 ∷ 3175070076 ∷ 1045905024 ∷ 1043547163 ∷ 3176973648 ∷ 3177510428 ∷ 1 ∷ 1047005591 ∷ 1046449573 ∷ 1024447856 ∷ 1044685045 ∷ 1041643588 ∷ 1038897768 ∷ 1042672061 ∷ 1045318403 ∷ 1044202407 ∷ 3162253024 ∷ 1047018486 ∷ 1023871064 ∷ 1011622528 ∷ 2147483648 ∷ 1031347892 ∷ 1033924990 ∷ 3175202668 ∷ 3180464560 ∷ 3184120106 ∷ 3188772307 ∷ 1047891965 ∷ 3187192472 ∷ 1065353216 ∷ 1041323642 ∷ 3190453889 ∷ 3160625328 ∷ []; visiting = 1042918721 ∷ 3187973173 ∷ 1037791812 ∷ 1043398858 ∷ 3192668687 ∷ 1045197009 ∷ 1025246260 ∷ 3178401964 ∷ 3195840344 ∷ 1025505084 ∷ 3194524221 ∷ 3212836864 ∷ 3158726096 ∷ 1032670394 ∷ 1045501989 ∷ 1042075673 ∷ 1042732632 ∷ 3168880312 ∷ []; chosen = 0 ∷ [] };
      other = record { tables = ((raised 29538 ∷ raised 3 ∷ raised 11 ∷ raised 32 ∷ raised 12 ∷ raised 0 ∷ []) ∷ []) ∷ ([]) ∷ ((raised 0 ∷ raised_minus 4967 ∷ []) ∷ (raised 1 ∷ raised 202 ∷ []) ∷ (raised 0 ∷ raised 0 ∷ []) ∷ []) ∷ ((raised_minus 5518 ∷ []) ∷ (raised 1852 ∷ []) ∷ (raised 0 ∷ []) ∷ []) ∷ ((raised 1 ∷ raised 2 ∷ raised_minus 4718 ∷ []) ∷ (raised 1 ∷ raised 1 ∷ raised_minus 856 ∷ []) ∷ []) ∷ ((raised 2 ∷ raised 0 ∷ raised 8 ∷ raised 0 ∷ []) ∷ (raised 0 ∷ raised 0 ∷ raised 0 ∷ raised 1 ∷ []) ∷ (raised 0 ∷ raised 0 ∷ raised 32 ∷ raised 0 ∷ []) ∷ (raised 2 ∷ raised 3 ∷ raised 8 ∷ raised 0 ∷ []) ∷ (raised 2 ∷ raised 0 ∷ raised 32 ∷ raised 0 ∷ []) ∷ (raised 2 ∷ raised 2 ∷ raised 6 ∷ raised 1 ∷ []) ∷ (raised 2 ∷ raised 0 ∷ raised 32 ∷ raised 0 ∷ []) ∷ (raised 2 ∷ raised 0 ∷ raised 8 ∷ raised 1 ∷ []) ∷ (raised 2 ∷ raised 0 ∷ raised 8 ∷ raised 1 ∷ []) ∷ (raised 2 ∷ raised 2 ∷ raised 6 ∷ raised 1 ∷ []) ∷ (raised 3 ∷ raised 0 ∷ raised 32 ∷ raised 0 ∷ []) ∷ []) ∷ ((raised 24875 ∷ raised_minus 55750 ∷ raised_minus 84125 ∷ []) ∷ []) ∷ ([]) ∷ ((raised 10 ∷ raised 4 ∷ raised 2 ∷ raised 0 ∷ raised 0 ∷ raised 4 ∷ raised 0 ∷ raised 3600000 ∷ raised 0 ∷ raised 0 ∷ []) ∷ (raised 1 ∷ raised 1 ∷ raised 2 ∷ raised_minus 1950 ∷ raised 0 ∷ raised 0 ∷ raised 0 ∷ raised 2 ∷ raised 2 ∷ raised 1 ∷ []) ∷ (raised 5 ∷ raised 5 ∷ raised 2 ∷ raised 0 ∷ raised 0 ∷ raised 0 ∷ raised 0 ∷ raised 0 ∷ raised 2 ∷ raised 4 ∷ []) ∷ (raised 8 ∷ raised 4 ∷ raised 2 ∷ raised 0 ∷ raised 0 ∷ raised 0 ∷ raised 0 ∷ raised 3600000 ∷ raised 1 ∷ raised 1 ∷ []) ∷ (raised 0 ∷ raised 4 ∷ raised 1 ∷ raised 0 ∷ raised 0 ∷ raised 0 ∷ raised 0 ∷ raised 0 ∷ raised 1 ∷ raised 4 ∷ []) ∷ []) ∷ []; bits = 980696916 ∷ 3134985376 ∷ 3135954260 ∷ 994119477 ∷ 996526402 ∷ 997989268 ∷ 983917492 ∷ 994411202 ∷ 996424548 ∷ 997026327 ∷ 2147483648 ∷ 3140841231 ∷ 990515880 ∷ 994179959 ∷ 3136125428 ∷ 990685760 ∷ 993377171 ∷ 3139567274 ∷ 3124622384 ∷ 3141621166 ∷ 3142341692 ∷ 3129010690 ∷ 3128325720 ∷ 3136919564 ∷ 1056964608 ∷ 3140206591 ∷ 3129933474 ∷ 991877030 ∷ 985629972 ∷ 3143874295 ∷ 3142080973 ∷ 3144618862 ∷ 3143213650 ∷ 3142027934 ∷ 997106309 ∷ 3109623680 ∷ 997193343 ∷ 953421504 ∷ 3128353424 ∷ 3098995712 ∷ 981017860 ∷ 2147483649 ∷ 954959968 ∷ 982084352 ∷ 3134635472 ∷ 991261922 ∷ 3130771078 ∷ 995494291 ∷ 2147483648 ∷ 3136055892 ∷ 3104232320 ∷ 966772408 ∷ 3118934000 ∷ 992783318 ∷ 992319951 ∷ 3143983684 ∷ 982027006 ∷ 3142439870 ∷ 3141977488 ∷ 3126402044 ∷ 3129683336 ∷ 996034545 ∷ 3137517402 ∷ 989634922 ∷ []; visiting = 3140681233 ∷ 988290454 ∷ 3143575631 ∷ 981981520 ∷ 3139802404 ∷ 3113740912 ∷ 3143686406 ∷ 3138851152 ∷ 3133355974 ∷ 3129149978 ∷ 995383858 ∷ 998222490 ∷ 3139415776 ∷ 3145704875 ∷ 2147483648 ∷ 991508785 ∷ []; chosen = 0 ∷ [] };
    }

abbrev pub outside_listener : Pair
outside_listener =
    record {
      one = record { tables = ((raised 29538 ∷ raised 3 ∷ raised 11 ∷ raised 32 ∷ raised 12 ∷ raised 0 ∷ []) ∷ []) ∷ ([]) ∷ ((raised 0 ∷ raised_minus 4967 ∷ []) ∷ (raised 1 ∷ raised 805 ∷ []) ∷ (raised 0 ∷ raised 0 ∷ []) ∷ []) ∷ ((raised_minus 5518 ∷ []) ∷ (raised 1852 ∷ []) ∷ (raised 0 ∷ []) ∷ []) ∷ ((raised 1 ∷ raised 2 ∷ raised_minus 4718 ∷ []) ∷ (raised 1 ∷ raised 1 ∷ raised_minus 856 ∷ []) ∷ []) ∷ ((raised 2 ∷ raised 0 ∷ raised 8 ∷ raised 1 ∷ []) ∷ (raised 0 ∷ raised 0 ∷ raised 0 ∷ raised 1 ∷ []) ∷ (raised 2 ∷ raised 6 ∷ raised 3 ∷ raised 1 ∷ []) ∷ (raised 2 ∷ raised 7 ∷ raised 2 ∷ raised 1 ∷ []) ∷ (raised 0 ∷ raised 0 ∷ raised 32 ∷ raised 0 ∷ []) ∷ (raised 2 ∷ raised 0 ∷ raised 9 ∷ raised 1 ∷ []) ∷ (raised 3 ∷ raised 0 ∷ raised 32 ∷ raised 0 ∷ []) ∷ (raised 2 ∷ raised 3 ∷ raised 6 ∷ raised 1 ∷ []) ∷ (raised 2 ∷ raised 2 ∷ raised 7 ∷ raised 1 ∷ []) ∷ (raised 2 ∷ raised 4 ∷ raised 5 ∷ raised 1 ∷ []) ∷ (raised 2 ∷ raised 0 ∷ raised 9 ∷ raised 1 ∷ []) ∷ []) ∷ ((raised 24875 ∷ raised_minus 55750 ∷ raised_minus 84125 ∷ []) ∷ []) ∷ ((raised 3 ∷ raised 27875 ∷ raised_minus 51750 ∷ raised_minus 84125 ∷ raised 424 ∷ raised 15657 ∷ []) ∷ []) ∷ ((raised 6 ∷ raised 5 ∷ raised 2 ∷ raised 0 ∷ raised 0 ∷ raised 0 ∷ raised 0 ∷ raised 6 ∷ raised 0 ∷ raised 0 ∷ []) ∷ (raised 0 ∷ raised 4 ∷ raised 1 ∷ raised 0 ∷ raised 0 ∷ raised 0 ∷ raised 0 ∷ raised 0 ∷ raised 1 ∷ raised 4 ∷ []) ∷ (raised 1 ∷ raised 5 ∷ raised 2 ∷ raised 0 ∷ raised 0 ∷ raised 0 ∷ raised 0 ∷ raised 1 ∷ raised 0 ∷ raised 0 ∷ []) ∷ (raised 7 ∷ raised 1 ∷ raised 2 ∷ raised_minus 4517 ∷ raised 0 ∷ raised 1 ∷ raised 0 ∷ raised 22 ∷ raised 1 ∷ raised 5 ∷ []) ∷ []) ∷ []; bits = 980696916 ∷ 3134985376 ∷ 3135954260 ∷ 994119477 ∷ 996526402 ∷ 997989268 ∷ 983917492 ∷ 994411202 ∷ 996424548 ∷ 997026327 ∷ 2147483648 ∷ 3140841231 ∷ 990515880 ∷ 994179959 ∷ 3136125428 ∷ 990685760 ∷ 993377171 ∷ 3139567274 ∷ 3124622384 ∷ 3141621166 ∷ 3142341692 ∷ 3129010690 ∷ 3128325720 ∷ 3136919564 ∷ 1056964608 ∷ 3140206591 ∷ 3129933474 ∷ 991877030 ∷ 985629972 ∷ 3143874295 ∷ 3142080973 ∷ 3144618862 ∷ 3143213650 ∷ 3142027934 ∷ 997106309 ∷ 3109623680 ∷ 997193343 ∷ 953421504 ∷ 3128353424 ∷ 3098995712 ∷ 981017860 ∷ 2147483649 ∷ 954959968 ∷ 982084352 ∷ 3134635472 ∷ 991261922 ∷ 3130771078 ∷ 995494291 ∷ 2147483648 ∷ 3136055892 ∷ 3104232320 ∷ 966772408 ∷ 3118934000 ∷ 992783318 ∷ 992319951 ∷ 3143983684 ∷ 982027006 ∷ 3142439870 ∷ 3141977488 ∷ 3126402044 ∷ 3129683336 ∷ 996034545 ∷ 3137517402 ∷ 989634922 ∷ 1016467744 ∷ 1021814520 ∷ 3190952802 ∷ 3185265392 ∷ 1036756892 ∷ 3196059648 ∷ 3183078692 ∷ 1022594200 ∷ 1044872221 ∷ 1038448512 ∷ 3195199886 ∷ 3176373080 ∷ 3175058024 ∷ 3191354875 ∷ 1042311922 ∷ 1022642184 ∷ 1046665182 ∷ 3180827190 ∷ 1041328111 ∷ 1044874082 ∷ 3191400173 ∷ 1046477943 ∷ 1032456452 ∷ 1036945096 ∷ 1037407600 ∷ 1044920744 ∷ 1041976093 ∷ 3166788848 ∷ 3174701048 ∷ 3183365560 ∷ 1042231058 ∷ 1042677509 ∷ 3196059648 ∷ 3188726709 ∷ 3193436737 ∷ 1046117729 ∷ 3189652834 ∷ 1042470412 ∷ 3189933253 ∷ 1033060438 ∷ 3195461359 ∷ 3194639344 ∷ 3152677344 ∷ 1032063232 ∷ 3188471062 ∷ 1043551974 ∷ 3175070076 ∷ 1045905024 ∷ 1043547163 ∷ 3176973648 ∷ 3177510428 ∷ 1 ∷ 1047005591 ∷ 1046449573 ∷ 1024447856 ∷ 1044685045 ∷ 1041643588 ∷ 1038897768 ∷ 1042672061 ∷ 1045318403 ∷ 1044202407 ∷ 3162253024 ∷ 1047018486 ∷ 1023871064 ∷ 1011622528 ∷ 2147483648 ∷ 1031347892 ∷ 1033924990 ∷ 3175202668 ∷ 3180464560 ∷ 3184120106 ∷ 3188772307 ∷ 1047891965 ∷ 3187192472 ∷ 1065353216 ∷ 1041323642 ∷ 3190453889 ∷ 3160625328 ∷ []; visiting = 1042918721 ∷ 3187973173 ∷ 1037791812 ∷ 1043398858 ∷ 3192668687 ∷ 1045197009 ∷ 1025246260 ∷ 3178401964 ∷ 3195840344 ∷ 1025505084 ∷ 3194524221 ∷ 3212836864 ∷ 3158726096 ∷ 1032670394 ∷ 1045501989 ∷ 1042075673 ∷ 1042732632 ∷ 3168880312 ∷ []; chosen = 0 ∷ [] };
      other = record { tables = ((raised 29538 ∷ raised 3 ∷ raised 11 ∷ raised 32 ∷ raised 12 ∷ raised 0 ∷ []) ∷ []) ∷ ([]) ∷ ((raised 0 ∷ raised_minus 4967 ∷ []) ∷ (raised 1 ∷ raised 202 ∷ []) ∷ (raised 0 ∷ raised 0 ∷ []) ∷ []) ∷ ((raised_minus 5518 ∷ []) ∷ (raised 1852 ∷ []) ∷ (raised 0 ∷ []) ∷ []) ∷ ((raised 1 ∷ raised 2 ∷ raised_minus 4718 ∷ []) ∷ (raised 1 ∷ raised 1 ∷ raised_minus 856 ∷ []) ∷ []) ∷ ((raised 2 ∷ raised 0 ∷ raised 8 ∷ raised 0 ∷ []) ∷ (raised 0 ∷ raised 0 ∷ raised 0 ∷ raised 1 ∷ []) ∷ (raised 0 ∷ raised 0 ∷ raised 32 ∷ raised 0 ∷ []) ∷ (raised 2 ∷ raised 3 ∷ raised 8 ∷ raised 0 ∷ []) ∷ (raised 2 ∷ raised 0 ∷ raised 32 ∷ raised 0 ∷ []) ∷ (raised 2 ∷ raised 2 ∷ raised 6 ∷ raised 1 ∷ []) ∷ (raised 2 ∷ raised 0 ∷ raised 32 ∷ raised 0 ∷ []) ∷ (raised 2 ∷ raised 0 ∷ raised 8 ∷ raised 1 ∷ []) ∷ (raised 2 ∷ raised 0 ∷ raised 8 ∷ raised 1 ∷ []) ∷ (raised 2 ∷ raised 2 ∷ raised 6 ∷ raised 1 ∷ []) ∷ (raised 3 ∷ raised 0 ∷ raised 32 ∷ raised 0 ∷ []) ∷ []) ∷ ([]) ∷ ((raised 3 ∷ raised 27875 ∷ raised_minus 51750 ∷ raised_minus 84125 ∷ raised 424 ∷ raised 15657 ∷ []) ∷ []) ∷ ((raised 10 ∷ raised 4 ∷ raised 2 ∷ raised 0 ∷ raised 0 ∷ raised 4 ∷ raised 0 ∷ raised 3600000 ∷ raised 0 ∷ raised 0 ∷ []) ∷ (raised 1 ∷ raised 1 ∷ raised 2 ∷ raised_minus 1950 ∷ raised 0 ∷ raised 0 ∷ raised 0 ∷ raised 2 ∷ raised 2 ∷ raised 1 ∷ []) ∷ (raised 5 ∷ raised 5 ∷ raised 2 ∷ raised 0 ∷ raised 0 ∷ raised 0 ∷ raised 0 ∷ raised 0 ∷ raised 2 ∷ raised 4 ∷ []) ∷ (raised 8 ∷ raised 4 ∷ raised 2 ∷ raised 0 ∷ raised 0 ∷ raised 0 ∷ raised 0 ∷ raised 3600000 ∷ raised 1 ∷ raised 1 ∷ []) ∷ (raised 0 ∷ raised 4 ∷ raised 1 ∷ raised 0 ∷ raised 0 ∷ raised 0 ∷ raised 0 ∷ raised 0 ∷ raised 1 ∷ raised 4 ∷ []) ∷ []) ∷ []; bits = 980696916 ∷ 3134985376 ∷ 3135954260 ∷ 994119477 ∷ 996526402 ∷ 997989268 ∷ 983917492 ∷ 994411202 ∷ 996424548 ∷ 997026327 ∷ 2147483648 ∷ 3140841231 ∷ 990515880 ∷ 994179959 ∷ 3136125428 ∷ 990685760 ∷ 993377171 ∷ 3139567274 ∷ 3124622384 ∷ 3141621166 ∷ 3142341692 ∷ 3129010690 ∷ 3128325720 ∷ 3136919564 ∷ 1056964608 ∷ 3140206591 ∷ 3129933474 ∷ 991877030 ∷ 985629972 ∷ 3143874295 ∷ 3142080973 ∷ 3144618862 ∷ 3143213650 ∷ 3142027934 ∷ 997106309 ∷ 3109623680 ∷ 997193343 ∷ 953421504 ∷ 3128353424 ∷ 3098995712 ∷ 981017860 ∷ 2147483649 ∷ 954959968 ∷ 982084352 ∷ 3134635472 ∷ 991261922 ∷ 3130771078 ∷ 995494291 ∷ 2147483648 ∷ 3136055892 ∷ 3104232320 ∷ 966772408 ∷ 3118934000 ∷ 992783318 ∷ 992319951 ∷ 3143983684 ∷ 982027006 ∷ 3142439870 ∷ 3141977488 ∷ 3126402044 ∷ 3129683336 ∷ 996034545 ∷ 3137517402 ∷ 989634922 ∷ []; visiting = 3140681233 ∷ 988290454 ∷ 3143575631 ∷ 981981520 ∷ 3139802404 ∷ 3113740912 ∷ 3143686406 ∷ 3138851152 ∷ 3133355974 ∷ 3129149978 ∷ 995383858 ∷ 998222490 ∷ 3139415776 ∷ 3145704875 ∷ 2147483648 ∷ 991508785 ∷ []; chosen = 0 ∷ [] };
    }

abbrev pub control_pairs : List Pair
control_pairs = muted_above_silence ∷ loud_volume_order ∷ send_from_below ∷ pause_with_millis ∷ pause_with_when ∷ pause_in_block1 ∷ second_pause ∷ resume ∷ outside_frame ∷ outside_origin ∷ outside_pose ∷ outside_placing ∷ outside_listener ∷ []
