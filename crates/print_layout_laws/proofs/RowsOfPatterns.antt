-- Patterns.
use Rattle.std.proofs.Common.{[], ◌++◌, codes, refl}
use Rattle.print_layout_laws.proofs.Rows.{Hold, laid_out, script}

rows_1 : Hold (
    script (codes "[a]=b") (codes "[a] = b;\n") (codes "[a]=b") ++
    script (codes "[a,,]=b") (codes "[a, , ] = b;\n") (codes "[a,,]=b") ++
    script (codes "[,a]=b") (codes "[, a] = b;\n") (codes "[,a]=b") ++
    script (codes "[a=1,...b]=c") (codes "[a = 1, ...b] = c;\n") (codes "[a=1,...b]=c") ++
    script (codes "[a.b,(c)]=d") (codes "[a.b, (c)] = d;\n") (codes "[a.b,(c)]=d") ++
    script (codes "({a}=b)") (codes "({ a } = b);\n") (codes "({a}=b)") ++
    script (codes "({a=1}=b)") (codes "({ a = 1 } = b);\n") (codes "({a=1}=b)") ++
    script (codes "({a:b}=c)") (codes "({ a: b } = c);\n") (codes "({a:b}=c)") ++
    script (codes "({a:b=1,'c':d,[e]:f,...g}=h)") (codes "({ a: b = 1, 'c': d, [e]: f, ...g } = h);\n") (codes "({a:b=1,\"c\":d,[e]:f,...g}=h)") ++
    script (codes "({}=a)") (codes "({} = a);\n") (codes "({}=a)") ++
    script (codes "var[]=a") (codes "var [] = a;\n") (codes "var[]=a") ++
    script (codes "var{}=a") (codes "var {} = a;\n") (codes "var{}=a") ++
    script (codes "let{a,b:[c]}=d") (codes "let { a, b: [c] } = d;\n") (codes "let{a,b:[c]}=d") ++
    [])
unfolding laid_out
rows_1 = refl

rows_2 : Hold (
    script (codes "[[a],{b}]=c") (codes "[[a], { b }] = c;\n") (codes "[[a],{b}]=c") ++
    script (codes "[,,a]=b") (codes "[, , a] = b;\n") (codes "[,,a]=b") ++
    script (codes "[,]=a") (codes "[, ] = a;\n") (codes "[,]=a") ++
    script (codes "[...[a]]=b") (codes "[...[a]] = b;\n") (codes "[...[a]]=b") ++
    script (codes "[...a.b]=c") (codes "[...a.b] = c;\n") (codes "[...a.b]=c") ++
    script (codes "({a:[b]=c}=d)") (codes "({ a: [b] = c } = d);\n") (codes "({a:[b]=c}=d)") ++
    script (codes "({[a]:b=1}=c)") (codes "({ [a]: b = 1 } = c);\n") (codes "({[a]:b=1}=c)") ++
    script (codes "({a:b.c,d:e[f]}=g)") (codes "({ a: b.c, d: e[f] } = g);\n") (codes "({a:b.c,d:e[f]}=g)") ++
    script (codes "({...a.b}=c)") (codes "({ ...a.b } = c);\n") (codes "({...a.b}=c)") ++
    script (codes "var{...a}=b") (codes "var { ...a } = b;\n") (codes "var{...a}=b") ++
    script (codes "var[a=1,,[b]]=c") (codes "var [a = 1, , [b]] = c;\n") (codes "var[a=1,,[b]]=c") ++
    script (codes "let{a=1,b:c=2}=d") (codes "let { a = 1, b: c = 2 } = d;\n") (codes "let{a=1,b:c=2}=d") ++
    script (codes "const{'a':b,1:c}=d") (codes "const { 'a': b, 1: c } = d;\n") (codes "const{\"a\":b,1:c}=d") ++
    [])
unfolding laid_out
rows_2 = refl
